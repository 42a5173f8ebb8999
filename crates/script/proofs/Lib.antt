pub mod BuildLaws
pub mod LineLaws
pub mod ScanLaws
pub mod SectionLaws
pub mod ScriptLaws
pub mod UniqueLaws
pub mod TotalLaws
