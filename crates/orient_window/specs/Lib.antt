pub mod Window
pub mod Good
pub mod Place
pub mod Rules
