pub mod Patch
pub mod Place
pub mod Rules
