pub mod Bytes
mod Puts
pub mod Wrong
pub mod Rules
