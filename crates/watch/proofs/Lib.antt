pub mod Streams
pub mod Listed
pub mod Under
