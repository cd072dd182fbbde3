pub mod Items
pub mod Sums
pub mod Tables
pub mod Validity
pub mod Insides
pub mod Faults
pub mod ShortLaws
