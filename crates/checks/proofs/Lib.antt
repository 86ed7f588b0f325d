pub mod Asking
pub mod Below
pub mod Chains
pub mod Wording
