pub mod Counting
pub mod Choices
mod Keeping
