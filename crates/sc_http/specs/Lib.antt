pub mod Headers
pub mod Requests
pub mod Heads
pub mod Room
pub mod Intake
pub mod Reading
pub mod Reply
