pub mod Service
pub mod Handling
pub mod Session
pub mod Steps
