pub mod Record
pub mod Places
pub mod Fault
pub mod Reading
pub mod Parity
pub mod Views
pub mod Replay
pub mod Laws
