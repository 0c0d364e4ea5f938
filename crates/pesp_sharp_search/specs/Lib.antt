pub mod Solving
pub mod Keeping
