pub mod Rules
pub mod Kept
pub mod Shown
pub mod Start
pub mod Status
