pub mod Forces
pub mod Rows
pub mod Steps
