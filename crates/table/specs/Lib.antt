pub mod Tables
pub mod Checks
pub mod Verdicts
pub mod Meanings
pub mod Languages
pub mod Laws
pub mod Accepted
