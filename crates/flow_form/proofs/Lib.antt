pub mod Run
pub mod Rises
pub mod Good
pub mod Kept
pub mod Counting
pub mod Scanning
pub mod Scanned
pub mod Gathering
pub mod Sorting
mod Parts
mod ExampleBranch
mod ExampleCalls
mod ExampleLoops
mod ExampleTransfers
mod ExampleForms
mod ExampleWalks
