pub mod Bools
pub mod Accepted
pub mod Within
pub mod Told
