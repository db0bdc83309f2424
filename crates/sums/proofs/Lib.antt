pub mod Runs
pub mod Count
pub mod Determined
pub mod Table
