pub mod Behind
pub mod Exact
pub mod BetweenView
pub mod Climb
