pub mod Numbered
pub mod Difference
pub mod Standing
