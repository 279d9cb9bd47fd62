pub mod Shelf
pub mod Changed
pub mod Kept
pub mod Split
pub mod Ticket
pub mod Collections
pub mod Run
pub mod Loads
