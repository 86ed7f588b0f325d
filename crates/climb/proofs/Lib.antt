pub mod Shapes
pub mod Picking
pub mod Joining
pub mod Plugging
pub mod Lifting
pub mod Steps
pub mod Rising
