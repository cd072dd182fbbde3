pub mod Assemblies
pub mod Exchanges
pub mod Comparing
pub mod Searches
pub mod Showing
pub mod Prunings
pub mod Assembled
