pub mod Codes
pub mod Arguments
pub mod Answers
pub mod Promises
