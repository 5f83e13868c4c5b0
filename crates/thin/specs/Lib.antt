pub mod Entry
pub mod Frames
pub mod Rules
