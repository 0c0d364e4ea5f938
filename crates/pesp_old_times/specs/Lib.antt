pub mod OldTimes
pub mod Tables
pub mod Moves
pub mod Beginning
