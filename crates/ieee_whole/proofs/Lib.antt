-- The laws of whole numbers that the proofs of the functions share.
mod Wholes
mod Flat
mod Casts
