pub mod Looks
pub mod Ways
