pub mod Batches
pub mod Crash
pub mod Lane
pub mod LaneRead
pub mod Plans
pub mod ReadingSteps
pub mod Windows
pub mod Writer
