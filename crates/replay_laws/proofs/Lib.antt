pub mod Lists
pub mod Others
pub mod Requested
pub mod Occurred
pub mod Going
pub mod Over
pub mod Answering
