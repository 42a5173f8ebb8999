pub mod Maps
pub mod Tree
pub mod Rule
