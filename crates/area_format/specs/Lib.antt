pub mod Area
pub mod AreaRead
pub mod Places
pub mod Results
pub mod Settings
