pub mod Checks
pub mod Answers
pub mod Rules
