pub mod Arrivals
pub mod Answers
