pub mod Spending
pub mod Assemblies
pub mod Walks
pub mod Searches
