pub mod Blanks
pub mod Crash
pub mod Left
pub mod Told
pub mod Writes
