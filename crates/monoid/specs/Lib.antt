pub mod Meaning
pub mod Words
pub mod Laws
pub mod Lamps
pub mod Small
pub mod Asking
