pub mod ValuesRules
pub mod GridRules
