pub mod ChangeLaws
pub mod Bodies
