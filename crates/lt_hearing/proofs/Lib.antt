pub mod Heard
pub mod Answering
