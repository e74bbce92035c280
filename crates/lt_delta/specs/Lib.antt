pub mod LastRow
pub mod Laying
pub mod Finding
pub mod Columns
