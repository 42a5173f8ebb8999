pub mod History
pub mod Noted
pub mod Played
pub mod Standing
