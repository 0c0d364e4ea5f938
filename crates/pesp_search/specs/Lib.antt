pub mod Singles
pub mod Solving
pub mod Beginning
pub mod Refusals
pub mod Rooting
pub mod Searching
