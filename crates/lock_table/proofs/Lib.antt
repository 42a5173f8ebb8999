pub mod Counts
pub mod LocksAt
pub mod OrderKept
pub mod Ranks
pub mod Reach
pub mod TableKept
pub mod Verdicts
