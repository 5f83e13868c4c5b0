pub mod Moves
pub mod Settle
pub mod Place
pub mod Sign
pub mod Few
