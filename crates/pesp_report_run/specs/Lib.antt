pub mod Reporting
pub mod Violating
pub mod Fixing
pub mod Naming
pub mod Told
pub mod Runs
pub mod Fixed
