mod Causes
pub mod Short
mod Telling
mod Places
