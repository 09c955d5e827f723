pub mod ReadingSteps
pub mod ArmsEnd
pub mod StatementLaws
