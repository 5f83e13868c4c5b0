-- The laws of roots that the proofs of the functions share, here and in `ieee_length`.
mod Roots
mod Rooted
mod Fast
pub mod Tries
pub mod Midpoints
pub mod Paths
