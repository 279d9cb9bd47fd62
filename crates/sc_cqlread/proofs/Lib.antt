pub mod Tokens
pub mod Going
pub mod Following
pub mod Quiet
pub mod Noting
pub mod Closing
pub mod Scanning
pub mod Course
pub mod Answered
pub mod Unique
mod Answers
mod Finishing
mod Forming
pub mod Total
