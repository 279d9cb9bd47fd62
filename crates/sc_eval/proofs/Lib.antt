pub mod Characters
pub mod Runs
pub mod Places
pub mod Truths
pub mod Tables
