pub mod LineFacts
pub mod Written
pub mod Joined
