pub mod Objects
pub mod Scalars
pub mod Geometries
pub mod Predicates
pub mod Written
