pub mod Orders
pub mod SeriesBounds
