pub mod Checks
pub mod Verdicts
pub mod Meanings
pub mod Languages
pub mod Laws
