pub mod Cut
pub mod Fault
mod Made
mod Direction
mod Directions
mod Turned
pub mod Keypoint
pub mod Bare
