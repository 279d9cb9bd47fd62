pub mod Keys
pub mod Order
pub mod Named
pub mod Spec
pub mod Sorts
pub mod Words
