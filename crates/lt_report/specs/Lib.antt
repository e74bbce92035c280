pub mod Puts
pub mod Texts
pub mod Headed
pub mod Traces
