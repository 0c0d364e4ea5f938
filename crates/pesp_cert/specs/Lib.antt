pub mod Limits
pub mod Texts
pub mod Print
pub mod Drafts
pub mod Refusals
pub mod RefusalLines
pub mod FrontPrint
pub mod Fronted
