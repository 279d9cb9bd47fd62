pub mod Chain
pub mod Joining
pub mod Chunks
pub mod Next
