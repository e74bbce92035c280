pub mod Named
pub mod Asking
pub mod Covering
pub mod Spotted
pub mod First
pub mod Going
pub mod Rising
pub mod ChangeLists
pub mod TouchedKeys
pub mod Touching
pub mod Ways
pub mod Costing
pub mod Endings
pub mod Steps
mod Samples
