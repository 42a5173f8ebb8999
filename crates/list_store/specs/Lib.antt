pub mod Faults
pub mod Found
pub mod Keeping
pub mod Log
pub mod Opening
pub mod Running
