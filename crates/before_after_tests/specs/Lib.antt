pub mod Seen
pub mod Summary
