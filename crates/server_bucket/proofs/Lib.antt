pub mod Joined
pub mod Refused
pub mod Said
pub mod Settled
