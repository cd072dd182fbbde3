pub mod Links
pub mod Doors
