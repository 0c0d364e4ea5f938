mod Causes
mod Solutions
pub mod SharpSolutions
mod Telling
pub mod Joining
pub mod Resumptions
pub mod SharpJoining
