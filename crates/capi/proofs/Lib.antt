pub mod Room
pub mod Counts
pub mod Codes
pub mod Determined
pub mod Table
