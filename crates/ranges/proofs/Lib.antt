pub mod Pieces
pub mod Ending
pub mod Joining
pub mod Walking
pub mod Taking
pub mod Forking
pub mod Ranging
pub mod Descending
