pub mod ByteLists
pub mod SteadyPuts
pub mod StreamSteps
