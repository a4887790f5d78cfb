-- Walks of small statements, members and scripts.
use Rattle.std.proofs.Common.{◌≡◌, [], ◌∷◌, refl}
use Rattle.php_token.specs.declared.kind.Keyword.TheVariants as word
use Rattle.php_token.specs.declared.kind.Punct.TheVariants as mark
use Rattle.php_ast.specs.Symbol as symbol
use Rattle.php_ast.specs.Symbol.{keyword, punct}
use Rattle.php_ast.specs.expression.Tree.{leaf, variable}
use Rattle.php_ast.specs.statement.Tree.{empty, then_also, block, blank, throw, no_statement, and_statement}
use Rattle.php_ast.specs.declaration.Tree.{of_statement}
use Rattle.php_grammar.specs.statement.Forms.{due_statement}
use Rattle.php_grammar.specs.declaration.MemberMachine.{past_modifiers}
use Rattle.php_grammar.specs.declaration.ScriptMachine.{due_item}
use Rattle.php_grammar_laws.specs.Walks.{whole, short, deep, walk_statement, walk_member, walk_script}

-- `{;}`, with a level of nesting and with none
walk_block : walk_statement 1 (due_statement []) (punct mark.LeftBrace ∷ punct mark.Semicolon ∷ punct mark.RightBrace ∷ []) ≡ whole (block tt (and_statement no_statement (blank tt))) []
walk_block = refl

walk_sinks : walk_statement 0 (due_statement []) (punct mark.LeftBrace ∷ punct mark.Semicolon ∷ punct mark.RightBrace ∷ []) ≡ deep (punct mark.Semicolon ∷ punct mark.RightBrace ∷ [])
walk_sinks = refl

-- `{; =`
walk_stops : walk_statement 1 (due_statement []) (punct mark.LeftBrace ∷ punct mark.Semicolon ∷ punct mark.Assign ∷ []) ≡ short (punct mark.Assign ∷ [])
walk_stops = refl

-- `throw $a; =`
walk_expression : walk_statement 0 (due_statement []) (keyword word.Throw ∷ symbol.variable (97 ∷ []) ∷ punct mark.Semicolon ∷ punct mark.Assign ∷ [])
    ≡ whole (throw tt (leaf tt (variable (97 ∷ [])))) (punct mark.Assign ∷ [])
walk_expression = refl

-- `throw $a =`, an assignment whose value is missing
walk_lacks : walk_statement 1 (due_statement []) (keyword word.Throw ∷ symbol.variable (97 ∷ []) ∷ punct mark.Assign ∷ []) ≡ short []
walk_lacks = refl

-- `public =`
walk_property : walk_member 1 (past_modifiers empty) (keyword word.Public ∷ punct mark.Assign ∷ []) ≡ short (punct mark.Assign ∷ [])
walk_property = refl

-- `; else`
walk_items : walk_script 1 (due_item empty) (punct mark.Semicolon ∷ keyword word.Else ∷ []) ≡ whole (then_also empty (of_statement (blank tt))) (keyword word.Else ∷ [])
walk_items = refl
