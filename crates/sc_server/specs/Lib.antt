pub mod Listening
pub mod Seats
pub mod Workers
pub mod Keepers
