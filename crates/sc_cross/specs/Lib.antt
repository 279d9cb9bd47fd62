pub mod Segment
pub mod Area
pub mod Meets
pub mod Parts
pub mod Meeting
