pub mod Constants
pub mod Finite
pub mod NextUp
pub mod Convert
pub mod Root
pub mod Scaled
pub mod Partial
pub mod Key
