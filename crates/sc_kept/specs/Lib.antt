pub mod Record
pub mod Keeping
pub mod Replaying
