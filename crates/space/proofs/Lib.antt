pub mod Gap
pub mod Under
pub mod Prune
pub mod Within
pub mod Rounding
pub mod Accuracy
pub mod Table
