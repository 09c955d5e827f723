pub mod DistinctLaws
pub mod ViewLaws
pub mod ViewStmtLaws
pub mod ViewTypedLaws
pub mod ViewTypedStmtLaws
pub mod Views
