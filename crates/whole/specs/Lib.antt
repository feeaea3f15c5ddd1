pub mod World
pub mod Promise
pub mod Runs
