pub mod SetLaws
pub mod PlanLaws
pub mod FaultLaws
pub mod WholeLaws
pub mod Deciding
