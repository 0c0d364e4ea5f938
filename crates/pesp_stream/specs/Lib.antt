pub mod Counting
pub mod Counts
pub mod Printing
pub mod Reading
pub mod Writing
pub mod Number
pub mod Words
