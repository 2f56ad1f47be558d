pub mod Ruled
pub mod Passed
pub mod DecidedRules
pub mod Determined
pub mod Literal
