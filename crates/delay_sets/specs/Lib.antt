pub mod Delays
pub mod Relations
pub mod Preceding
pub mod Backing
pub mod OfOrder
pub mod ClearSites
