pub mod Faults
pub mod FoundToken
pub mod Letters
pub mod Reading
pub mod Scans
pub mod Seen
pub mod Spelling
pub mod Tokens
