pub mod After
pub mod Lifted
pub mod Values
pub mod Squares
pub mod Rules
