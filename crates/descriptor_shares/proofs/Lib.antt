pub mod Steps
pub mod Floors
pub mod Spreads
