pub mod Rows
pub mod Marked
pub mod Pairs
pub mod Items
pub mod Counts
pub mod Lines
