pub mod Calendar
pub mod Ends
pub mod Form
pub mod Instant
pub mod Reading
pub mod Written
