pub mod Products
pub mod Memo
