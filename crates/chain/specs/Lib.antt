pub mod Ways
pub mod Places
pub mod Controllers
pub mod Falls
pub mod Kept
