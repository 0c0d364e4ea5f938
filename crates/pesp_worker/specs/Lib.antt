pub mod Holding
pub mod HandingIn
pub mod Taken
pub mod Lent
pub mod Jobs
pub mod Grafts
pub mod Texts
