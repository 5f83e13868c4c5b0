pub mod Sign
pub mod Laws
pub mod Kit
pub mod Examples
