pub mod Journals
pub mod Whole
