pub mod Zero
pub mod Drawings
pub mod Ahead
pub mod OneAnswer
pub mod Inside
pub mod Filled
pub mod Finishing
