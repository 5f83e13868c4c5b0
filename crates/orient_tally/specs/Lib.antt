pub mod Sample
pub mod Tally
pub mod Place
pub mod Runs
pub mod Rules
