pub mod Apart
pub mod Eid
pub mod Packet
pub mod Key
pub mod Refusals
