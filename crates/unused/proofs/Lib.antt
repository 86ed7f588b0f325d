pub mod Threading
pub mod Heaping
pub mod Emptying
