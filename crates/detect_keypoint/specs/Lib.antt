pub mod Search
pub mod Offsets
pub mod Keypoint
pub mod Sign
pub mod Sound
