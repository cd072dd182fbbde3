pub mod SeriesSums
pub mod SeriesDualityLaws
pub mod TwinLaws
pub mod UseLaws
pub mod PoolLaws
pub mod SeriesTreeLaws
pub mod OneFormLaws
