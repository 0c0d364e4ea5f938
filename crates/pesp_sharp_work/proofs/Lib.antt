mod Lesser
mod Retelling
mod Branching
mod Waiting
mod Listing
mod CountedJobs
pub mod Keeping
mod Passed
mod Taking
