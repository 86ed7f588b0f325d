pub mod Showing
pub mod Keeping
pub mod Listings
pub mod Agreeing
pub mod Turning
pub mod Telling
