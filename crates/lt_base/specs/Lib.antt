pub mod Tables
pub mod Indexed
pub mod Shown
pub mod Changed
pub mod Edited
