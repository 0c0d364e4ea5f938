pub mod Told
pub mod Parts
pub mod Ranks
pub mod Jobs
pub mod Paths
pub mod Keeping
pub mod Cutting
pub mod Grafts
