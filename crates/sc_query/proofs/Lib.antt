pub mod Boxes
pub mod Chain
pub mod Counts
pub mod Fits
pub mod Parts
pub mod Spelled
