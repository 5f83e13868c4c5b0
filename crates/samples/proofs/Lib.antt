pub mod Runs
pub mod Slopes
pub mod Strips
