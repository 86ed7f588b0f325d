pub mod Walks
pub mod Edited
pub mod Inserts
pub mod Strikes
pub mod Products
pub mod Replaces
pub mod Descents
