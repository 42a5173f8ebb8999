pub mod Build
pub mod Index
