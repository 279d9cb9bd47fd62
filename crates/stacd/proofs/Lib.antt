pub mod Ends
pub mod Judging
pub mod Kept
pub mod Naming
pub mod Piped
pub mod Running
pub mod Served
