-- The laws of raised patterns and of the guess that the proofs of the functions share.
mod Small
mod Raised
mod Digits
