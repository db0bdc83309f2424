pub mod Gather
pub mod Check
pub mod Entries
