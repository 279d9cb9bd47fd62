pub mod Sets
pub mod Foresight
pub mod Taking
pub mod Lexemes
pub mod Longest
pub mod Next
