pub mod Ends
pub mod Joins
pub mod Parts
pub mod Ranges
pub mod Descents
