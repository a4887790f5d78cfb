-- The spelling of what may stand behind the names of a `use`.
use Rattle.std.specs.Prelude.{Option, Some, None, List, ◌∷◌}
use Rattle.php_token.specs.declared.kind.Punct.TheVariants as mark
use Rattle.php_ast.specs.Symbol.{Symbol, punct}
use Rattle.php_ast.specs.expression.View.{Note}
use Rattle.php_ast.specs.statement.Tree.{Sequence}
use Rattle.php_ast.specs.declaration.Tree.{Rule}
use Rattle.php_ast.specs.declaration.Spelling.{joined, spell_rule}

-- `;`, or rules in braces
abbrev pub spell_rules : Option (Sequence (Rule Note)) → List Symbol → List Symbol
spell_rules None w = punct mark.Semicolon ∷ w
spell_rules (Some rules) w = punct mark.LeftBrace ∷ joined spell_rule rules (punct mark.RightBrace ∷ w)
