pub mod Words
pub mod Features
pub mod Collection
pub mod Items
pub mod Load
pub mod Prepared
pub mod Patches
