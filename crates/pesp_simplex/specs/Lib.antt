pub mod Improvements
