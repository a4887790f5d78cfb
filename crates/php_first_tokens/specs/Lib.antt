pub mod Lexemes
pub mod Examples
