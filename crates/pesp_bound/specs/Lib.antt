pub mod Leaves
pub mod Decided
pub mod Differences
pub mod Settling
pub mod Growing
