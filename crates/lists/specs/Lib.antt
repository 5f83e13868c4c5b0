pub mod Ranges
pub mod Pasted
pub mod Each
