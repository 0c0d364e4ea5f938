pub mod Ordered
pub mod Arrays
