pub mod Neighbours
pub mod Scan
pub mod SameList
