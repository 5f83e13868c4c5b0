pub mod Pack
pub mod Layout
pub mod Words
pub mod Sheet
pub mod Writes
pub mod Reads
pub mod Trip
