pub mod Boards
pub mod Lists
pub mod History
pub mod Passes
