pub mod BlockRuns
pub mod BlockSaid
pub mod Progress
pub mod StatementRuns
pub mod Steps
pub mod TextRuns
pub mod Transactions
pub mod Tries
