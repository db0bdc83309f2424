pub mod Gathering
pub mod Answers
pub mod Determined
pub mod Table
