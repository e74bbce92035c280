pub mod Beginnings
pub mod Moves
pub mod Adding
pub mod Fitting
