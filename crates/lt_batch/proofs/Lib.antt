pub mod Widths
pub mod FittingRuns
pub mod InOrder
pub mod SpanLists
pub mod LineLists
pub mod Leaves
pub mod LineInOrder
pub mod LineRuns
pub mod LineOpened
pub mod Indexed
pub mod Runs
pub mod LeafPlaces
pub mod Helpers
pub mod Crossing
pub mod EarlyRuns
pub mod Gone
pub mod AheadRuns
pub mod KeptRuns
mod JobsInside
mod InHand
mod Following
mod Machine
pub mod Unborne
