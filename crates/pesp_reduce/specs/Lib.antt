pub mod Rows
pub mod Contractions
pub mod Contracting
pub mod Fates
pub mod Parts
pub mod Reductions
pub mod Times
pub mod LiftedWalks
