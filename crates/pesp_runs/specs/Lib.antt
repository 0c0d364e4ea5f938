pub mod Bases
pub mod Runs
pub mod Reading
pub mod Causes
pub mod FaultLines
pub mod Fronts
