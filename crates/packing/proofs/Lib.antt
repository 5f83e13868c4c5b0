-- The laws of rounding that the proofs of the functions here and in the crates of `ieee` share.
pub mod Size
pub mod Half
pub mod Units
pub mod Scaled
pub mod Cases
pub mod Open
pub mod Fields
mod Split
pub mod Sums
pub mod Aligned
pub mod Plain
