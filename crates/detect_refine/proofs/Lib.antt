pub mod Places
pub mod Steps
pub mod Settled
pub mod SignLaw
pub mod Sounds
