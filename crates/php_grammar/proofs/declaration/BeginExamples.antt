-- Examples of what symbols begin.
use Rattle.std.proofs.Common.{None, [], ◌∷◌, refl}
use Rattle.php_token.specs.declared.kind.Keyword.TheVariants as word
use Rattle.php_token.specs.declared.kind.Punct.TheVariants as mark
use Rattle.php_ast.specs.Symbol as symbol
use Rattle.php_ast.specs.Symbol.{keyword, punct}
use Rattle.php_ast.specs.expression.Tree.{variable, leaf}
use Rattle.php_ast.specs.statement.Tree.{empty, then_also, blank, jump, while, returning, single}
use Rattle.php_ast.specs.declaration.Tree.{of_statement}
use Rattle.php_grammar.specs.Begins.{BeginsStatement, BeginsSignature, BeginsScript}

-- return
pub begun_return : BeginsStatement (keyword word.Return ∷ [])
begun_return = record { tree = jump tt returning None; rest = punct mark.Semicolon ∷ []; spelled = (tt, refl) }

-- while ( $a
pub begun_while : BeginsStatement (keyword word.While ∷ punct mark.LeftParen ∷ symbol.variable (97 ∷ []) ∷ [])
begun_while = record {
  tree = while tt (leaf tt (variable (97 ∷ []))) (single (blank tt));
  rest = punct mark.RightParen ∷ punct mark.Semicolon ∷ [];
  spelled = ((tt, tt), refl);
}

-- (
pub begun_signature : BeginsSignature (punct mark.LeftParen ∷ [])
begun_signature = record { tree = record { params = empty; result = None }; rest = punct mark.RightParen ∷ []; spelled = (tt, refl) }

-- ; return
pub begun_script : BeginsScript (punct mark.Semicolon ∷ keyword word.Return ∷ [])
begun_script = record {
  tree = then_also (then_also empty (of_statement (blank tt))) (of_statement (jump tt returning None));
  rest = punct mark.Semicolon ∷ [];
  spelled = (((tt, tt), tt), refl);
}
