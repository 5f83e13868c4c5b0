pub mod Place
pub mod Entry
pub mod Rules
pub mod Nothing
