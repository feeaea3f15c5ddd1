pub mod Posts
pub mod Opened
pub mod Machines
