pub mod Calls
pub mod Chosen
pub mod Images
pub mod Lone
pub mod Moments
pub mod Places
pub mod Plans
pub mod Together
