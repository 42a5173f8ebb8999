pub mod Locks
pub mod Plays
pub mod Ranges
