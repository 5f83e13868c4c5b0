pub mod Faults
pub mod Keeps
pub mod Rules
