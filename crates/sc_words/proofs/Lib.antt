pub mod Leaves
pub mod Top
pub mod Sets
pub mod Ends
pub mod Numbers
pub mod Asking
