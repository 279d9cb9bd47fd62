pub mod Answers
pub mod Groups
pub mod Made
pub mod Entries
pub mod Holdings
pub mod Kept
pub mod Views
