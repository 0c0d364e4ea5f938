pub mod Orders
pub mod Lifting
pub mod Beginnings
pub mod SinglePairs
pub mod RootLooks
pub mod Turns
pub mod Costs
pub mod Solutions
