pub mod View
pub mod Groups
pub mod Course
pub mod Flights
pub mod Standings
pub mod Nodes
