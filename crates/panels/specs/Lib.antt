pub mod Data
pub mod Lamps
pub mod Sayings
pub mod Panels
pub mod Worked
