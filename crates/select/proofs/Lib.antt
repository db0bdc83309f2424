pub mod Order
pub mod Sifting
pub mod Selection
pub mod Table
