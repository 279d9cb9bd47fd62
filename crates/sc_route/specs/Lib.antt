pub mod Bodies
pub mod Jobs
pub mod Pairs
pub mod Seen
