pub mod Forms
pub mod Calls
pub mod Refusals
pub mod Sheets
pub mod Questions
pub mod Lawful
pub mod Steps
pub mod Plain
