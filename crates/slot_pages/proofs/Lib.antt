pub mod SlotPlaces
pub mod TwiceLaws
pub mod PageKept
