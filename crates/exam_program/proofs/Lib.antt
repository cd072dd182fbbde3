pub mod BaseLaws
pub mod CauseLaws
pub mod Completeness
pub mod OnePlan
pub mod OutcomeLaws
pub mod ReplayLaws
pub mod RequestLaws
pub mod RunLaws
pub mod ScriptLaws
pub mod ServeLaws
pub mod Lending
pub mod LinkLaws
pub mod SessionLaws
pub mod SettledLaws
pub mod StatusLaws
pub mod TreeTexts
mod RowsOfA
