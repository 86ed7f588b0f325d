pub mod Accepted
pub mod Languages
pub mod Wording
