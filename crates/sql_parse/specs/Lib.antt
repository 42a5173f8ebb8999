pub mod Faults
pub mod Parsed
pub mod Grammar
pub mod Phrases
pub mod Quotes
pub mod Reading
pub mod Words
