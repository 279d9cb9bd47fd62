pub mod Weaving
pub mod Inside
