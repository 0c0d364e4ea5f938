pub mod Gaps
pub mod Solving
pub mod Resuming
pub mod Outside
pub mod SharpSolving
pub mod SharpOutside
pub mod Replies
