pub mod Patterns
pub mod Rules
