pub mod Posts
pub mod Admission
pub mod Sorts
