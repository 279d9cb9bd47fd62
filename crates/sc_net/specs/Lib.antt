pub mod Listen
