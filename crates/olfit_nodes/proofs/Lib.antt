pub mod Frames
pub mod Places
pub mod Searches
