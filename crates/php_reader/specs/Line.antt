-- Lines of tokens.
use Rattle.std.specs.Prelude.{◌≡◌, ℕ, ◌-◌, nat_lt, if◌then◌else◌, List, [], length}
use Rattle.php_token.specs.Token.{Token, token_at}
use Rattle.php_reader.specs.declared.fail.ParseFail.{ParseFail}
use Rattle.php_reader.specs.declared.fail.ParseFail.TheVariants.{Syntax, TooDeep, NoMemory}
use Rattle.php_reader.specs.declared.fail.Stop.{Stop}
use Rattle.php_reader.specs.declared.fail.Stop.TheVariants as stop

-- of the token at a place, and behind the last token its line, or 1 where there is no token
abbrev pub line_at : List Token → ℕ → ℕ
line_at [] k = 1
line_at tokens k = if nat_lt k (length tokens) then (token_at tokens k).line else (token_at tokens (length tokens - 1)).line

-- the same failure, with its line
abbrev pub IsLined : List Token → Stop → ParseFail → Type 0
IsLined tokens (stop.Syntax k) fail = fail ≡ Syntax k (line_at tokens k)
IsLined tokens (stop.TooDeep k) fail = fail ≡ TooDeep k (line_at tokens k)
IsLined tokens stop.NoMemory fail = fail ≡ NoMemory
