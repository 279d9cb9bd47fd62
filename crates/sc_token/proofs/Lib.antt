pub mod Bytes
pub mod Decimals
pub mod Fitting
pub mod Found
pub mod Lists
pub mod Spread
pub mod Answered
