pub mod Quoting
pub mod Places
pub mod Spellings
pub mod Moments
pub mod Texts
pub mod Parts
pub mod Phrases
