pub mod PageLaws
pub mod EntryLaws
pub mod DeltaLaws
pub mod RestartLaws
pub mod BatchLaws
pub mod WindowLaws
pub mod ReadingLaws
