pub mod Costs
pub mod Spared
pub mod Changes
