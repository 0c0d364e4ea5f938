pub mod TimeLines
pub mod Told
pub mod Order
pub mod ViolatedRows
pub mod Distances
