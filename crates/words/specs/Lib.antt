pub mod Keypoint
pub mod Oriented
pub mod Rules
pub mod Inputs
