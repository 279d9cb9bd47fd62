pub mod Commas
pub mod Orders
pub mod Ties
pub mod Prefixes
