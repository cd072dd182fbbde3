pub mod Lists
pub mod Views
pub mod Passing
pub mod Keeping
pub mod Joining
