pub mod Demands
pub mod Waits
pub mod Placing
pub mod PlanLaws
pub mod Behind
