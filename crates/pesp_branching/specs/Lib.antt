pub mod Passing
pub mod Expanding
pub mod Offering
pub mod Rooms
pub mod Settled
pub mod LeafSums
pub mod Turns
pub mod Lifted
