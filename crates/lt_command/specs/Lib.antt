pub mod Definition
pub mod Command
