pub mod Moments
pub mod Places
pub mod Extent
pub mod Sets
