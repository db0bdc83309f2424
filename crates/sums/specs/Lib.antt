pub mod Vector
pub mod Stats
pub mod Sums
pub mod Accepted
pub mod Entries
