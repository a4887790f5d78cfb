pub mod Signatures
pub mod Modifiers
pub mod MemberFaults
pub mod Bodies
pub mod ClassFaults
pub mod Items
pub mod Promise
