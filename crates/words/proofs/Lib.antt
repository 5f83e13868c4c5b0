pub mod Rules
mod Inputs
