pub mod Blocks
pub mod Lends
pub mod Region
pub mod Runs
pub mod Written
