pub mod Draws
pub mod Items
pub mod Banks
pub mod Plans
pub mod Scripts
pub mod Drills
pub mod Exams
