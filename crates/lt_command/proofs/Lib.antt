pub mod Numbers
pub mod Refusals
pub mod Commands
pub mod CommandExamples
