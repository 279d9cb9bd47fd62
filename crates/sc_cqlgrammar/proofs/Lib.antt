pub mod Picking
pub mod Fitting
pub mod Readings
pub mod Opening
pub mod Steps
pub mod Valued
pub mod Formed
pub mod Forgetting
