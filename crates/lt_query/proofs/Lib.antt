pub mod Ascending
pub mod Counting
pub mod Distinct
pub mod Elements
pub mod Given
pub mod LevelParts
pub mod LevelSteps
pub mod Needed
pub mod Orders
pub mod Origins
pub mod Picks
pub mod PlaceSteps
pub mod Precedence
pub mod Running
pub mod SameShape
pub mod Standing
pub mod StatedPlan
pub mod Text
mod NeedsExamples
mod OrderExamples
pub mod ByShape
pub mod Wide
pub mod Displaced
pub mod KeysStay
pub mod Neighbours
pub mod OnShapes
pub mod Refilled
pub mod KeptPlans
