pub mod Numbers
pub mod Turns
pub mod Angle
pub mod Rules
