pub mod Faultless
pub mod SetLaws
