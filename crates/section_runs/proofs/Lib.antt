pub mod TrailLaws
pub mod RunLaws
pub mod SectionLaws
pub mod SectionRuns
