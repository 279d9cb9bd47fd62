pub mod Following
pub mod Telling
pub mod Feeds
pub mod Stopping
pub mod Taking
pub mod Running
