pub mod Models
pub mod Sound
pub mod Steps
pub mod Ways
pub mod Calls
pub mod Chains
pub mod Runs
