pub mod Connections
pub mod Lists
pub mod Seats
pub mod Sessions
pub mod Workers
pub mod Crossing
pub mod Keepers
