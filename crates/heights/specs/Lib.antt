pub mod Heights
