pub mod Turn
pub mod Rules
