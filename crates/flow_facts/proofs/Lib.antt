pub mod EachPart
pub mod FirstPoints
pub mod FlowFacts
