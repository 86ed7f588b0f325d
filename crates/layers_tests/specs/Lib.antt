pub mod First
pub mod Deep
