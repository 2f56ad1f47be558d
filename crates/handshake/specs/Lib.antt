pub mod Phases
pub mod Steps
pub mod Order
pub mod Runs
pub mod Back
pub mod Starts
