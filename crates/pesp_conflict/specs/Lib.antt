pub mod Findings
pub mod Refusals
pub mod Insides
pub mod Lists
