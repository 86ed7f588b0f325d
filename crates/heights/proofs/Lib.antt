pub mod Fewest
pub mod Highest
