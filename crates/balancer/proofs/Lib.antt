pub mod Servers
pub mod Highest
pub mod Steps
