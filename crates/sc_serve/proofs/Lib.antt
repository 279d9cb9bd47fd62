pub mod Turns
pub mod Contents
pub mod Pages
pub mod Saying
pub mod Finding
pub mod Notices
pub mod Replying
pub mod Telling
