pub mod Limits
pub mod Inner
pub mod Shown
pub mod Refusing
pub mod LemmaCheck
pub mod Valid
pub mod OwnWeights
pub mod Claims
