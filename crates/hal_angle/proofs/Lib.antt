pub mod AngleValues
mod AngleLaws
mod AngleUnits
mod AngleTable
mod AngleAxes
pub mod AngleDoubled
pub mod Rules
