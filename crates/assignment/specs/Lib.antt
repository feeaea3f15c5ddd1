pub mod Even
pub mod Rule
pub mod Numbers
pub mod Moves
pub mod Laws
