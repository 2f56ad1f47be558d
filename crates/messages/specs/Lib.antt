pub mod Run
pub mod Tallies
pub mod Message
