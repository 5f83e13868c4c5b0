pub mod SignLaw
