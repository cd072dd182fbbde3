mod Rows
pub mod Spelling
pub mod Walking
