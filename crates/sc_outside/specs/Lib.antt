pub mod Causes
pub mod Outside
pub mod Reading
pub mod Lines
pub mod Memory
pub mod Connections
pub mod Standard
pub mod MemListen
