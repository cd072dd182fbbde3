pub mod Series
pub mod SeriesTrees
pub mod SeriesPaths
pub mod SeriesTwins
pub mod SeriesBounds
pub mod SeriesPools
pub mod SeriesVerdicts
pub mod SeriesLaws
