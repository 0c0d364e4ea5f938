pub mod Entries
pub mod Slots
pub mod Mark
pub mod Moved
