pub mod Ends
pub mod Free
