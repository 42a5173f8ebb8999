pub mod FlatLaws
pub mod RegionLaws
pub mod RunLaws
