pub mod Weights
pub mod Commands
pub mod Words
