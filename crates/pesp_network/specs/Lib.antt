pub mod Networks
pub mod Chains
pub mod Growing
pub mod Floods
pub mod Rooted
pub mod Ways
pub mod Times
pub mod Held
