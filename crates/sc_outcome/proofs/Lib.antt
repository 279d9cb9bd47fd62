pub mod Bare
pub mod Boxes
