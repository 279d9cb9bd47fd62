pub mod Balance
pub mod Written
pub mod Callers
pub mod Cards
