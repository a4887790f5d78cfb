-- What is answered of the signature that begins at a place.
use Rattle.std.specs.Prelude.{◌≡◌, ◌≤◌, ◌<◌, ℕ, ◌+◌, ◌-◌, Some, None, List, [], ◌++◌, take, length}
use Rattle.php_token.specs.Token.{Token}
use Rattle.php_ast.specs.Symbol.{Symbol}
use Rattle.php_ast.specs.declared.declaration.Signature as rust_signature
use Rattle.php_ast.specs.expression.View.{Note}
use Rattle.php_ast.specs.declaration.Tree.{Signature}
use Rattle.php_ast.specs.declaration.Placed.{signature_form}
use Rattle.php_ast.specs.declaration.Nesting.{signature_nests}
use Rattle.php_ast.specs.declaration.View.{signature_view}
use Rattle.php_grammar.specs.Begins.{BeginsSignature}
use Rattle.php_grammar.specs.TooDeep.{first_too_deep}
use Rattle.php_grammar.specs.expression.Machine.{Nothing}
use Rattle.php_grammar.specs.declaration.Laws.{SpellsSignature, IsSpelledSignature}
use Rattle.php_reader.specs.declared.fail.ParseFail.{ParseFail}
use Rattle.php_reader.specs.declared.fail.ParseFail.TheVariants.{Syntax, TooDeep, NoMemory}
use Rattle.php_reader.specs.Line.{line_at}
use Rattle.php_parse_expression.specs.Exact.{between, symbols}

-- The tokens from a place to before k begin a signature, and no more tokens do.
pub record Reaches (tokens : List Token) (at k : ℕ) : Type 0 where
  pub ahead : at ≤ k
  pub within : k ≤ length tokens
  pub begins : BeginsSignature (symbols tokens at k)
  pub most : (j : ℕ) → k < j → j ≤ length tokens → BeginsSignature (symbols tokens at j) → ⊥

-- The tokens from a place to before k spell this signature and no other, none of them is nested too deep, and no more
-- tokens begin a signature.
pub record IsRead (depth : ℕ) (tokens : List Token) (at : ℕ) (s : rust_signature.Signature) (k : ℕ) : Type 0 where
  pub reaches : Reaches tokens at k
  pub spelled : IsSpelledSignature tokens at (signature_view s) (between tokens at k)
  pub only : (a : Signature Note) → IsSpelledSignature tokens at a (between tokens at k) → a ≡ signature_view s
  pub shallow : first_too_deep depth (signature_nests (signature_form (signature_view s)) 0 []) ≡ None

-- The tokens from a place to before k begin a signature and spell none, none of them is nested too deep, and no more
-- tokens begin a signature.
pub record IsSyntax (depth : ℕ) (tokens : List Token) (at k line : ℕ) : Type 0 where
  pub reaches : Reaches tokens at k
  pub unspelled : (s : Signature Nothing) → SpellsSignature s (symbols tokens at k) → ⊥
  pub shallow : (s : Signature Nothing) (more : List Symbol) → SpellsSignature s (symbols tokens at k ++ more) → first_too_deep depth (take (k - at) (signature_nests s 0 [])) ≡ None
  pub on_line : line ≡ line_at tokens k

-- The tokens from a place on begin a signature up to and with token k, the first one that is nested too deep.
pub record IsTooDeep (depth : ℕ) (tokens : List Token) (at k line : ℕ) : Type 0 where
  pub ahead : at ≤ k
  pub within : k < length tokens
  pub begins : BeginsSignature (symbols tokens at (k + 1))
  pub sinks : (s : Signature Nothing) (more : List Symbol) → SpellsSignature s (symbols tokens at (k + 1) ++ more) → first_too_deep depth (signature_nests s 0 []) ≡ Some (k - at)
  pub on_line : line ≡ line_at tokens k

abbrev pub IsRefused : ℕ → List Token → ℕ → ParseFail → Type 0
IsRefused depth tokens at (Syntax k line) = IsSyntax depth tokens at k line
IsRefused depth tokens at (TooDeep k line) = IsTooDeep depth tokens at k line
IsRefused depth tokens at NoMemory = Unit {0}
