pub mod Keypoint
pub mod Entry
pub mod Accepted
pub mod Given
pub mod Rules
