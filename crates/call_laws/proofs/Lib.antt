pub mod Comings
pub mod Lasting
