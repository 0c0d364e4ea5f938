pub mod Numbers
pub mod Parts
pub mod Decisions
pub mod Refusals
pub mod Trials
pub mod ListedRows
