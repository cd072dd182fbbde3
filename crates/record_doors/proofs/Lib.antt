pub mod Rules
pub mod Giving
pub mod Ending
pub mod Chaining
