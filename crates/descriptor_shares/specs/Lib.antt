pub mod Sharing
pub mod Reach
