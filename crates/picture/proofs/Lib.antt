pub mod Index
pub mod Apart
