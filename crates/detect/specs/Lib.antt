pub mod Entry
pub mod Form
pub mod SignLaw
pub mod Rules
