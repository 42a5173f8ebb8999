mod Cuts
pub mod Keys
