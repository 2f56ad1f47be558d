pub mod Cuts
pub mod Ranges
pub mod Packets
pub mod Sendings
pub mod Determined
pub mod Literal
pub mod Order
