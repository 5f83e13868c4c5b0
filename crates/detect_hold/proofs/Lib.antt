pub mod Few
pub mod Parts
pub mod Tested
