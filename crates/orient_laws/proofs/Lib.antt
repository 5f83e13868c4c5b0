pub mod Near
pub mod Units
pub mod Crest
pub mod Offset
pub mod Wrap
pub mod Pattern
pub mod Bins
pub mod Rules
