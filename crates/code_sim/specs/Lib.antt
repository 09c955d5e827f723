pub mod Enough
pub mod Ran
pub mod Asking
pub mod UnderWay
pub mod Picks
