pub mod MagnitudeLaws
pub mod Rules
