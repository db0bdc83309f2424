pub mod Pairs
pub mod Near
pub mod Sorting
pub mod Gather
pub mod Order
pub mod Entries
pub mod Reach
