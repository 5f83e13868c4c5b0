pub mod Faults
pub mod Answers
pub mod SignLaw
pub mod Rules
