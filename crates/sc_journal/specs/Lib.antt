pub mod Disk
pub mod Format
pub mod Images
pub mod Journal
pub mod Memory
pub mod Opening
pub mod Reading
pub mod Recorded
