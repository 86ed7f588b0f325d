pub mod Outputs
pub mod Answers
pub mod Tells
pub mod Endings
pub mod Listings
pub mod Listed
pub mod Ends
