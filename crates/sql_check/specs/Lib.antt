pub mod Columns
pub mod KeyRange
pub mod Misfits
pub mod Plans
pub mod Valued
