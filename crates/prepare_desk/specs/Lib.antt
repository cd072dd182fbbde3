pub mod Desks
pub mod Turns
pub mod Posts
pub mod Preparing
