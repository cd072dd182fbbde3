pub mod Allowing
pub mod Connections
pub mod Doors
pub mod Joining
pub mod Results
