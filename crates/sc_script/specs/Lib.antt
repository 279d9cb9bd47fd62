pub mod Members
pub mod Step
pub mod Drafts
