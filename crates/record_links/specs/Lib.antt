pub mod World
pub mod Messages
pub mod Replicas
pub mod Following
pub mod Shipping
pub mod Memory
pub mod Events
pub mod Streaming
