pub mod Distance
pub mod Exact
