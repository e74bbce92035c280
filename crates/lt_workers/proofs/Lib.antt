pub mod Replays
pub mod Knowing
pub mod Visiting
pub mod Continuing
pub mod WentAlone
pub mod Finals
pub mod SeenFinals
pub mod Machines
