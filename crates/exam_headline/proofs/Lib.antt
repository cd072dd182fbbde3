pub mod Rows
pub mod Bytes
pub mod Journaled
pub mod Adding
pub mod Nexts
pub mod Way
pub mod Talks
pub mod Fair
