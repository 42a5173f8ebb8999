pub mod Printed
pub mod Refused
pub mod Text
pub mod Apart
