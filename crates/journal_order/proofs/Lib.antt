pub mod ByEdges
pub mod Listing
pub mod Passes
