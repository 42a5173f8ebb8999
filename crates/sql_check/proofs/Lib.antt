pub mod NamedTables
pub mod RangeMeets
pub mod RealFaults
