pub mod Taking
pub mod Following
pub mod Leading
pub mod Once
