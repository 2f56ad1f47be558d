pub mod Setup
pub mod Slots
pub mod Tallies
pub mod State
pub mod Changes
pub mod Ages
