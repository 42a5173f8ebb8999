pub mod State
pub mod Slots
