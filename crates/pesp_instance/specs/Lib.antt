pub mod Number
pub mod Records
pub mod Activities
pub mod Tables
pub mod Instance
pub mod Reading
pub mod RefusalLines
