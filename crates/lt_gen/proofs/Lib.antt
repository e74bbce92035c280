mod Examples
pub mod Grouping
pub mod Within
pub mod Parts
pub mod Adding
pub mod Answering
pub mod Asking
