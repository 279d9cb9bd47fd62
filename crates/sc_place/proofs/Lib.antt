mod Adds
mod Conflicts
mod Finds
mod Names
mod Nowhere
mod Splits
mod Written
