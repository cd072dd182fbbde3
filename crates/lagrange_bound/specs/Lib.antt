pub mod Cuts
pub mod Bounds
pub mod Counted
pub mod Ranges
pub mod Shares
pub mod Fills
pub mod Links
