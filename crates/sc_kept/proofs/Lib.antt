pub mod Splitting
pub mod Telling
pub mod Storing
pub mod Following
pub mod Publishing
pub mod Payloads
