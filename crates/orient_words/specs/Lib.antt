pub mod Oriented
pub mod Given
