pub mod Goods
pub mod Again
pub mod Places
pub mod Cuts
pub mod Reading
pub mod Patching
pub mod Crossing
