pub mod Lifting
pub mod Owners
pub mod Levels
pub mod Circulations
pub mod Gathering
pub mod Systems
