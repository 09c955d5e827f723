pub mod FloorDivision
