pub mod Ranks
pub mod Renewing
pub mod Copying
pub mod CopyRuns
pub mod Descents
