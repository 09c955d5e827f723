pub mod Report
pub mod Status
pub mod Memory
