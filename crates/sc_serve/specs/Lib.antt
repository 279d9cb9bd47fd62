pub mod Desks
pub mod Notices
pub mod Replies
pub mod Service
