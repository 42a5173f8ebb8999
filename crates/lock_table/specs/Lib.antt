pub mod Locks
pub mod Orders
pub mod Tables
