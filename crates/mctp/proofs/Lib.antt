pub mod Keys
pub mod Headers
pub mod Refusals
pub mod Determined
pub mod Literal
