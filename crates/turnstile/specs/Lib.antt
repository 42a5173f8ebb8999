pub mod History
pub mod Turns
pub mod Steps
pub mod Passes
pub mod Whole
pub mod Words
pub mod Lending
