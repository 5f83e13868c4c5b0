pub mod Pictures
pub mod Steps
pub mod Ready
