pub mod Fields
pub mod Differs
pub mod Stated
pub mod Told
pub mod Further
pub mod Octaves
pub mod Bare
