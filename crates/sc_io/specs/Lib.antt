pub mod Adapter
pub mod Memory
pub mod MemoryState
pub mod Steady
pub mod SteadyState
pub mod Streams
