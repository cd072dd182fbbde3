pub mod Masks
pub mod Enumerated
