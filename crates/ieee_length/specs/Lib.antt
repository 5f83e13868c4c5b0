pub mod Raised
pub mod Mild
