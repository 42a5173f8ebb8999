pub mod Room
pub mod States
