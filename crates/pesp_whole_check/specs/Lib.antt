pub mod Inner
pub mod Costs
pub mod Rooms
