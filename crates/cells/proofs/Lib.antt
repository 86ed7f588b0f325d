pub mod Lookup
pub mod Frame
pub mod Opening
pub mod Asking
pub mod Products
pub mod Mending
pub mod Descending
