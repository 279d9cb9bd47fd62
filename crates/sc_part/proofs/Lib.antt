mod Sorting
mod Scanning
mod Places
mod Merging
mod Hulls
mod Indexing
pub mod Changing
pub mod Boxes
pub mod Crossing
