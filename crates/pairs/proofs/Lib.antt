pub mod Below
pub mod Bits
pub mod Grid
pub mod Pairs
pub mod Moved
