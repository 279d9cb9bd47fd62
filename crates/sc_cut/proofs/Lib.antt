pub mod Keys
pub mod Months
