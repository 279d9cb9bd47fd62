mod Quotes
mod Characters
mod Tokens
pub mod Readable
mod Lists
mod Boxing
pub mod Forming
pub mod Standing
pub mod Leaving
pub mod Wholes
