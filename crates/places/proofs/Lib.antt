pub mod Searched
pub mod Moved
