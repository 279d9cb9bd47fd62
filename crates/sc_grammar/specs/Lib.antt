pub mod Grammar
pub mod Classes
pub mod Lexing
pub mod Words
pub mod Tokens
