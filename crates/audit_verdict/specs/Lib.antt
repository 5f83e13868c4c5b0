pub mod Verdict
pub mod Told
