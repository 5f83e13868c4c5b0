pub mod Covering
pub mod Sources
pub mod Adding
pub mod Topping
pub mod Cutting
pub mod Splitting
