pub mod Histories
pub mod Passes
pub mod Seats
pub mod Rule
pub mod Plays
