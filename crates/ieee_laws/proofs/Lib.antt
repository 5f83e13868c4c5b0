-- What holds of the operations, for every operand: sign, order, bounds; and that the pages of rounding leave no choice.
pub mod Turned
pub mod TurnedOps
pub mod Order
pub mod Monotone
pub mod Bounds
pub mod Cuts
pub mod Level
pub mod Wholes
pub mod Floors
pub mod Paths
pub mod Unique
pub mod Laws
pub mod Kit
pub mod Examples
