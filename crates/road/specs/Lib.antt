pub mod Road
pub mod Back
pub mod Blank
pub mod Rules
