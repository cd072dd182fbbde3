pub mod Served
pub mod Look
pub mod First
pub mod Tail
pub mod Doors
