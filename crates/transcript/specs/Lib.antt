pub mod State
pub mod Line
pub mod Frame
pub mod Taking
pub mod Last
pub mod Front
