pub mod Headers
pub mod Numbers
