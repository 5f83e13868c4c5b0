pub mod TurnLaws
pub mod Rules
