pub mod Search
pub mod Demands
pub mod Bounded
