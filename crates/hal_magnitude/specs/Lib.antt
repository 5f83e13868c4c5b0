pub mod Cubics
pub mod Magnitude
pub mod Rules
