pub mod Literals
pub mod Boxes
pub mod Values
pub mod Formed
pub mod Whole
pub mod Readable
