pub mod Behind
pub mod Left
pub mod Opened
pub mod PutLaws
pub mod Told
