pub mod Pairing
pub mod Intersecting
pub mod Reversing
