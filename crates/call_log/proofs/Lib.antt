pub mod Fitting
pub mod Histories
pub mod Standings
pub mod Walks
