pub mod Bools
pub mod Naturals
pub mod Ranges
pub mod Pasted
pub mod Every
pub mod Each
pub mod Both
