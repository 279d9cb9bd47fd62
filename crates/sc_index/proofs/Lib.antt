pub mod Placing
pub mod Putting
pub mod Taking
pub mod Crossing
