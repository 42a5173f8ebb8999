pub mod Crash
pub mod Plans
pub mod Put
pub mod Writer
