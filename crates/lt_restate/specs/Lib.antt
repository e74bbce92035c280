pub mod Bases
pub mod Changes
pub mod Covered
pub mod Spots
pub mod Touches
pub mod Walked
