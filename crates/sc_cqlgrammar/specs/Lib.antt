pub mod Rules
pub mod Table
pub mod Reading
pub mod Machine
