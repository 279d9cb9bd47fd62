pub mod Key
pub mod Span
