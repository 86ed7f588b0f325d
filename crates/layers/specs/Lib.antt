pub mod Layer
pub mod SideBySide
pub mod Not
pub mod All
pub mod Reversed
