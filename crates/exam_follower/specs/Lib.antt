pub mod Followers
pub mod Delivering
pub mod Shipping
pub mod Takeover
pub mod Openings
pub mod Later
