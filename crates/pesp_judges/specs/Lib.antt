pub mod Propagations
pub mod Pending
pub mod Faults
pub mod Lines
pub mod LeafLines
pub mod SaidLines
pub mod Ways
pub mod Showing
