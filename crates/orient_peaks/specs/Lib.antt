pub mod Peaks
pub mod Found
pub mod Rules
