pub mod Nets
pub mod Offsets
pub mod Ranges
pub mod Flows
pub mod Gains
pub mod Taken
pub mod Terms
pub mod Claims
