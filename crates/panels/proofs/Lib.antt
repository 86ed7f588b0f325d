pub mod Saying
pub mod Accepting
pub mod Closing
pub mod Paging
pub mod Adjoining
pub mod Collecting
pub mod Turning
pub mod Examples
