-- What reads the statements inside a statement.
use Rattle.std.specs.Prelude.{◌≤◌, ◌<◌, ℕ, ◌-◌, Result, length}
use denote.Ref.{Bor}
use Rattle.php_reader.specs.declared.reader.Reader.{Reader}
use Rattle.php_reader.specs.declared.fail.Stop.{Stop}
use Rattle.php_reader.specs.Seen.{rest}
use Rattle.php_parse_simple.specs.declared.read.ReadStatement.{ReadStatement}
use Rattle.php_parse_simple.specs.Walk.{depth_before}
use Rattle.php_parse_simple.specs.Answer.{AnswersIn, AnswersStatement}

-- the statement that begins at a place, one level deeper
abbrev pub AnswersInside : Reader → ℕ → Result ReadStatement Stop → Type 0
AnswersInside reader at r = AnswersIn (depth_before (rest reader.tokens.now at)) (reader.room - 1) reader.tokens.now at r

-- What reads statements with less than so many levels of nesting left.
pub record Nests (bound : ℕ) (allows : Bor Reader → ℕ → Type 0) (gives : Bor Reader → ℕ → Result ReadStatement Stop → Type 0) : Type 0 where
  pub callable : (reader : Bor Reader) (at : ℕ) → at ≤ length reader.now.tokens.now → reader.now.room < bound → allows reader at
  pub reads : (reader : Bor Reader) (at : ℕ) (r : Result ReadStatement Stop) → gives reader at r → AnswersStatement reader.now at r
