pub mod Rules
pub mod Kept
pub mod Settled
pub mod Status
