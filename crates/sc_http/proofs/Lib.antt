pub mod Digits
pub mod Names
pub mod Feeds
pub mod Fronts
pub mod Bodies
pub mod Steps
pub mod Whole
pub mod Replies
