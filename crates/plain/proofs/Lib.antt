pub mod Asking
pub mod Unbroken
pub mod Tags
pub mod Totals
pub mod Lawful
pub mod Mapping
