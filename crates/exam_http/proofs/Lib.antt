pub mod ListLaws
pub mod Bodies
pub mod Names
pub mod RoutePaths
pub mod ServingLaws
pub mod AfterMessages
pub mod TokenLaws
