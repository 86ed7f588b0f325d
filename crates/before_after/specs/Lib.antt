pub mod Action
pub mod BeforeAfter
pub mod Marked
pub mod Laws
pub mod Actions
