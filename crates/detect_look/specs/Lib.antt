pub mod Place
pub mod Hints
