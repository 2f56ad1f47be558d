pub mod Checks
pub mod Rules
pub mod Decision
