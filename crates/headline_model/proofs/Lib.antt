pub mod Rows
pub mod Seats
pub mod FormsOf
pub mod Counted
pub mod Told
