pub mod Drawing
pub mod Kept
pub mod Levels
pub mod Reading
pub mod Answer
