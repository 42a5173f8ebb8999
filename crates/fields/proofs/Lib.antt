pub mod ToggleLaws
pub mod DifferLaws
