pub mod Sets
pub mod Shape
pub mod Spelling
pub mod Old
pub mod Reading
pub mod Cuts
