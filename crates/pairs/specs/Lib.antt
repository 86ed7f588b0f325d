pub mod Below
pub mod Bits
pub mod Lines
pub mod Pairs
pub mod Moved
