pub mod ShownLaws
pub mod NextLaws
pub mod ProblemLaws
pub mod StepLaws
