pub mod ViewCoreLaws
pub mod ViewCoreStmtLaws
