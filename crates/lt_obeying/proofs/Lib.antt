pub mod Dumping
pub mod Worlds
