pub mod Numbers
pub mod Steps
pub mod Fields
pub mod Tables
pub mod Limits
pub mod Leads
pub mod Grammar
pub mod Laws
