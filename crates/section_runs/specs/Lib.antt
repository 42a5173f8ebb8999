pub mod Trail
pub mod Sections
pub mod Lasting
