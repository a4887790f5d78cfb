pub mod ExpressionCode
pub mod StatementCode
pub mod Compiled
pub mod Parts
