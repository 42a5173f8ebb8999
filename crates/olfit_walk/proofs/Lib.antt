pub mod Finds
pub mod Pieces
pub mod Told
pub mod Walks
pub mod Seeks
