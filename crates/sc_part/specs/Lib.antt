pub mod Scan
pub mod Version
pub mod Entry
pub mod Index
pub mod Merged
pub mod Inside
