pub mod Passing
pub mod Crossing
