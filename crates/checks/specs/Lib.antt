pub mod Verdicts
pub mod Below
