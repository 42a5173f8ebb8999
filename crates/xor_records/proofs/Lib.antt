pub mod ParityLaws
pub mod ReplayLaws
pub mod TextLaws
pub mod WritingLaws
pub mod SpanLaws
mod Example
