pub mod Names
pub mod Again
pub mod Notes
pub mod Steps
pub mod Outboxes
