pub mod Literals
pub mod Reading
pub mod SpelledScalars
pub mod SpelledShapes
pub mod SpelledExpressions
