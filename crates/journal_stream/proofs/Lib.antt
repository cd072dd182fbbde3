pub mod Placed
pub mod Settled
pub mod Marked
pub mod Moved
pub mod Chained
