pub mod Bounds
pub mod Chains
pub mod Follow
pub mod Edges
pub mod AllEdges
pub mod RunsIn
pub mod AsksAt
pub mod Carried
