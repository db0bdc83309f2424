pub mod Pairs
pub mod Entries
pub mod Refusals
pub mod Demands
pub mod Inside
pub mod Determined
pub mod Table
