pub mod AskingLaws
pub mod LengthLaws
pub mod DrillLaws
