pub mod Crash
pub mod Parity
pub mod Plans
pub mod Writer
