pub mod Fill
pub mod Made
pub mod Rules
