pub mod Every
pub mod Formed
pub mod Keeping
pub mod Levels
