pub mod Languages
pub mod Wording
