pub mod Step
pub mod Effects
