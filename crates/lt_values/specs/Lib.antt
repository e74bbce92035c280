pub mod Ints
pub mod Symbols
pub mod Laws
