pub mod Staying
pub mod Idling
pub mod Rows
pub mod Preparing
