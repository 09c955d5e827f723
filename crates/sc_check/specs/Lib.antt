pub mod ViewStatements
