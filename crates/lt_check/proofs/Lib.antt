pub mod Steps
pub mod Narrowing
pub mod Binding
pub mod Statements
pub mod Fitting
pub mod Limits
pub mod Columned
mod Places
pub mod Fronts
pub mod Looks
pub mod Bodies
pub mod Heads
pub mod Formed
pub mod Wordings
