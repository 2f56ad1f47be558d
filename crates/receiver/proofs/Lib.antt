pub mod Offered
pub mod Laws
pub mod Young
pub mod Gone
pub mod Determined
pub mod Literal
