pub mod Counts
pub mod Codes
pub mod Offsets
pub mod SignLaw
pub mod Sized
pub mod Contrast
pub mod Asked
pub mod Octaves
