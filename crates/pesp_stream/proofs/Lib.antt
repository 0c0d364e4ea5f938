pub mod Fronts
pub mod Printing
pub mod Digits
pub mod SplitPieces
