pub mod Best
pub mod Demand2
pub mod Demand3
pub mod Bounds
pub mod Answers
pub mod Determined
pub mod Table
