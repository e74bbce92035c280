pub mod Draws
pub mod Programs
pub mod Script
pub mod Answered
pub mod Summaries
pub mod Counted
pub mod Limits
