pub mod Common
pub mod Ring
pub mod Potential
pub mod Moves
pub mod Search
pub mod View
pub mod Noted
pub mod Places
