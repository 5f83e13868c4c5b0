pub mod Samples
pub mod Area
