pub mod KeyLaws
pub mod LockLaws
pub mod LookUpLaws
pub mod PlaysLaws
pub mod RangeLaws
