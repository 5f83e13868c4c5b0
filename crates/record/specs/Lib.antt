pub mod Record
pub mod Make
pub mod Rules
