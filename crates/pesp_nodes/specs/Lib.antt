pub mod Nets
pub mod Passages
pub mod Flows
pub mod Offsets
pub mod Problems
pub mod Prepared
pub mod Values
pub mod Pending
