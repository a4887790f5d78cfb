pub mod Examples
pub mod ExamplesOfCalls
