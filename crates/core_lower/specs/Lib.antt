pub mod ViewWhole
pub mod ListedStatements
pub mod ListedFunctions
