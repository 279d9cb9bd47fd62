pub mod Keeping
pub mod Lines
pub mod Names
pub mod Page
pub mod Program
pub mod Serving
