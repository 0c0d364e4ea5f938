pub mod ReadingLemmas
pub mod Causes
mod Printed
pub mod Lists
pub mod Fronts
pub mod Cycles
pub mod Lines
pub mod Items
pub mod Texts
pub mod Lemmas
pub mod LemmaItems
pub mod LemmaSteps
pub mod Passed
