mod WordExamples
mod Examples
mod BeginExamples
pub mod SignatureBack
pub mod FunctionBack
pub mod MemberBack
pub mod ScriptBack
pub mod Sizes
pub mod Notes
pub mod NotedLaws
pub mod Shifts
pub mod SignatureTrace
pub mod FunctionTrace
pub mod MemberTrace
pub mod ScriptTrace
