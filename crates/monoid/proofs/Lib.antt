pub mod Words
pub mod Lighting
pub mod Carrying
