pub mod Limit
pub mod Pairs
pub mod TargetPoint
pub mod Entries
pub mod Refusals
pub mod Matching
pub mod Promises
