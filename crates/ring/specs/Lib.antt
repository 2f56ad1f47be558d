pub mod Numbers
pub mod Round
pub mod Layout
pub mod Reading
pub mod Writing
pub mod Answers
pub mod Offers
pub mod Runs
