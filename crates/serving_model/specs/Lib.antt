pub mod Serving
pub mod Seats
pub mod Laws
