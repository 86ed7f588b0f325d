pub mod Listed
pub mod Piles
pub mod Freeing
pub mod Descents
