pub mod Content
pub mod Named
pub mod Pushing
pub mod Runs
