pub mod Strengths
pub mod Best
pub mod Edged
pub mod Quarters
pub mod Cases
pub mod Few
pub mod Promises
