pub mod Places
pub mod Going
pub mod Joining
pub mod CellTexts
pub mod Folding
pub mod Parts
