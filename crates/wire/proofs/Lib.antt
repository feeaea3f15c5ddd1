pub mod Numbers
pub mod Cuts
pub mod Positions
pub mod Again
pub mod Forth
pub mod Numbered
