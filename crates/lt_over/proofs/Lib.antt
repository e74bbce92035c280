pub mod Counts
pub mod Edited
pub mod Firsts
pub mod FoundRows
pub mod OneByOne
pub mod Overlays
pub mod Runs
