pub mod Cuts
pub mod Numbers
pub mod Lined
pub mod Inside
pub mod TraceExamples
pub mod Elements
