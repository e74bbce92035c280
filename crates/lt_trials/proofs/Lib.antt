pub mod Finding
pub mod SetExamples
pub mod InHand
