pub mod Stack
pub mod Turns
pub mod Built
pub mod Table
