pub mod Faults
pub mod Fits
pub mod Reading
pub mod Steps
pub mod Token
