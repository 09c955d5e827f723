pub mod Following
pub mod Extending
pub mod Next
pub mod Forgotten
