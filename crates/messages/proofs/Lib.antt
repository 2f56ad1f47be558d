pub mod Runs
pub mod Tallies
pub mod Gathering
pub mod NoSlot
pub mod Acceptance
pub mod Counts
pub mod Determined
pub mod Contracts
