pub mod Carriers
pub mod Determined
pub mod Literal
