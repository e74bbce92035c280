pub mod Edits
pub mod Layers
pub mod Overlaid
