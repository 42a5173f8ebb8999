pub mod Exact
pub mod Fronts
pub mod Gaps
pub mod GapShape
pub mod Literals
pub mod Runs
pub mod Lone
