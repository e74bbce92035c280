pub mod Joins
pub mod Edits
pub mod Counts
pub mod Gathered
pub mod Runs
pub mod Parts
