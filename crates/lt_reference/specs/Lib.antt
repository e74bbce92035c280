pub mod Values
pub mod Walk
pub mod Ready
pub mod Rivals
pub mod Run
