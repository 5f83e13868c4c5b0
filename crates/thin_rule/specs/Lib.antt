pub mod Rule
pub mod Strength
