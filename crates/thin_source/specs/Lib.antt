pub mod Sources
pub mod Adds
