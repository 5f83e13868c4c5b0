pub mod Negatives
