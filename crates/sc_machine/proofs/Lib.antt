pub mod Wrapped
pub mod Seen
pub mod Looking
pub mod Installing
pub mod Searching
pub mod Costing
