pub mod Sessions
pub mod Model
pub mod Promise
pub mod Runs
pub mod NearMisses
pub mod Cases
