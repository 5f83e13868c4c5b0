pub mod Good
pub mod Window
