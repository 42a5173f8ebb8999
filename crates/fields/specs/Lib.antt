pub mod Fields
pub mod Differ
pub mod Toggle
