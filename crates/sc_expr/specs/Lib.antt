pub mod Measure
pub mod Form
pub mod Kept
pub mod Filter
pub mod Query
