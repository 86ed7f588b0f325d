pub mod Asked
pub mod Finding
pub mod Within
pub mod Storing
pub mod Altering
pub mod Committing
