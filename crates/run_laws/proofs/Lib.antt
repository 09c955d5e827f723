pub mod PlainAsks
pub mod PlainJournal
pub mod Flights
pub mod GoesOn
pub mod Known
pub mod Settled
pub mod Runs
