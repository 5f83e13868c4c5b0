pub mod Fused
pub mod Parts
pub mod Root
pub mod Whole
pub mod F32
pub mod Numbers
pub mod Rounding
pub mod Operations
