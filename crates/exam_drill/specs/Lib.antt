pub mod Leading
pub mod Drills
pub mod Texts
pub mod Lengths
