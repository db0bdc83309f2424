pub mod Moments
pub mod Frame
pub mod Entries
