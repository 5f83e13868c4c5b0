pub mod Entry
pub mod Fine
pub mod Left
pub mod Rules
