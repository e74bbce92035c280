pub mod Seen
pub mod Visit
pub mod Driven
pub mod Seats
pub mod Alone
pub mod Given
pub mod Machines
