pub mod Joins
pub mod Triples
pub mod Plans
pub mod Ways
pub mod Frames
pub mod Rises
