pub mod State
pub mod Loads
pub mod Looks
pub mod Searches
pub mod Machine
pub mod Inside
