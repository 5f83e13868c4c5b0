pub mod Sides
pub mod Hints
pub mod Looks
pub mod Counted
