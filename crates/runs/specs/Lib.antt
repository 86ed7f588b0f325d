pub mod Scripted
pub mod Answers
pub mod Told
