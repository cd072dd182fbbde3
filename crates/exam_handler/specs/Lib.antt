pub mod Handling
