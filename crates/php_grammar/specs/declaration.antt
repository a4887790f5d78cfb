pub mod SignatureMachine
pub mod FunctionMachine
pub mod MemberMachine
pub mod ScriptMachine
pub mod Depth
pub mod Laws
