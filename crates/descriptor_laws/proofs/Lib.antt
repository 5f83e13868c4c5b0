pub mod Lists
pub mod Zeros
pub mod Signs
pub mod ValuesRules
pub mod Parts
pub mod Sums
pub mod Places
pub mod GridRules
