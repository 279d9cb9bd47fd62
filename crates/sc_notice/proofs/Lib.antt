pub mod Balance
pub mod Weights
pub mod Crossing
