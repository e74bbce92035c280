pub mod Seen
pub mod Narrowing
pub mod Binding
pub mod Outcome
pub mod States
pub mod Taking
