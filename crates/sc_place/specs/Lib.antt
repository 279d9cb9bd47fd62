pub mod Endpoints
pub mod Operations
pub mod Resources
pub mod Segments
pub mod Takes
