pub mod WordLists
pub mod ListLines
pub mod RequestTexts
pub mod RequestLines
pub mod ScriptLines
pub mod ReadLaws
pub mod SourceLaws
mod Rows
