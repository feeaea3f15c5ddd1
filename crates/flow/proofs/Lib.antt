pub mod Same
pub mod Every
pub mod Reversal
pub mod Powers
pub mod Heads
pub mod Digits
