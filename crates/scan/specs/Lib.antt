pub mod Input
pub mod Words
pub mod Program
pub mod Promises
