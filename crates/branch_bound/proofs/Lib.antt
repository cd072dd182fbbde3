pub mod ExchangeLaws
pub mod Comparisons
pub mod SearchLaws
pub mod LeafLaws
pub mod SearchSteps
pub mod WholeSearch
pub mod OutcomeLaws
pub mod PruneLaws
