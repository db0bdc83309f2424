pub mod Entry
pub mod KNearest
pub mod Radius
pub mod Shift
pub mod Entries
pub mod Lists
pub mod Nearest
