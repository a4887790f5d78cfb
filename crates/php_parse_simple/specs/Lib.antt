pub mod Walk
pub mod RoleView
pub mod Parts
pub mod Answer
pub mod NameAnswer
pub mod HeadAnswer
pub mod LabelAnswer
pub mod CatchAnswer
