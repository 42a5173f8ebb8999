pub mod Keeps
pub mod Lasting
pub mod Opens
pub mod Rewrites
pub mod Peeking
