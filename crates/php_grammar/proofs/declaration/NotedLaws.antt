-- Tokens spell at most one statement, signature and script with its notes.
use Rattle.std.proofs.Common.{◌≡◌, ℕ, Option, Some, None, List, [], map, sym, ◌∙◌, ap}
use Rattle.php_token.specs.Token.{Token}
use Rattle.php_ast.specs.Symbol.{Symbol, symbol}
use Rattle.php_grammar.specs.expression.Machine.{Nothing}
use Rattle.php_ast.specs.expression.View.{Note}
use Rattle.php_ast.specs.expression.Placed.{no_notes, notes_of}
use Rattle.php_ast.specs.statement.Tree.{Statement}
use Rattle.php_ast.specs.statement.Placed.{noted_statement, statement_form}
use Rattle.php_grammar.specs.statement.Laws.{IsSpelledStatement}
use Rattle.php_ast.specs.declaration.Tree.{Type_of, Signature, Script}
use Rattle.php_ast.specs.declaration.Placed.{noted_signature, noted_script, signature_form, script_form}
use Rattle.php_grammar.specs.declaration.SignatureMachine.{read_signature}
use Rattle.php_grammar.specs.declaration.Laws.{ResultEnds, SpellsSignature, IsSpelledSignature, IsSpelledScript}
use Rattle.php_grammar.proofs.statement.Notes.{statement_again}
use Rattle.php_grammar.proofs.declaration.Notes.{signature_again, script_again}
use Rattle.php_grammar.proofs.statement.LawProofs.{one_statement}
use Rattle.php_grammar.proofs.declaration.SignatureBack.{signatures_read_back}
use Rattle.php_grammar.proofs.declaration.ScriptBack.{one_script}

pub one_statement_tree : (tokens : List Token) (at : ℕ) (w : List Token) (a b : Statement Note) → IsSpelledStatement tokens at a w → IsSpelledStatement tokens at b w → a ≡ b
one_statement_tree tokens at w a b p q =
    let same : statement_form a ≡ statement_form b = one_statement (statement_form a) (statement_form b) (map symbol w) p.spelled q.spelled in
    sym p.placed ∙ sym (statement_again no_notes (notes_of tokens) 0 at a) ∙ ap (noted_statement (notes_of tokens) at) same
    ∙ statement_again no_notes (notes_of tokens) 0 at b ∙ q.placed

nothing_behind : (result : Option (Type_of Nothing)) → ResultEnds result []
nothing_behind None = tt
nothing_behind (Some t) = tt

pub one_signature : (a b : Signature Nothing) (w : List Symbol) → SpellsSignature a w → SpellsSignature b w → a ≡ b
one_signature a b w p q =
    ap (λ r. r.tree)
    (sym (signatures_read_back a [] p.0 (nothing_behind a.result)) ∙ ap read_signature (p.1 ∙ sym q.1) ∙ signatures_read_back b [] q.0 (nothing_behind b.result))

pub one_signature_tree : (tokens : List Token) (at : ℕ) (w : List Token) (a b : Signature Note) → IsSpelledSignature tokens at a w → IsSpelledSignature tokens at b w → a ≡ b
one_signature_tree tokens at w a b p q =
    let same : signature_form a ≡ signature_form b = one_signature (signature_form a) (signature_form b) (map symbol w) p.spelled q.spelled in
    sym p.placed ∙ sym (signature_again no_notes (notes_of tokens) 0 at a) ∙ ap (noted_signature (notes_of tokens) at) same
    ∙ signature_again no_notes (notes_of tokens) 0 at b ∙ q.placed

pub one_script_tree : (tokens : List Token) (a b : Script Note) → IsSpelledScript tokens a → IsSpelledScript tokens b → a ≡ b
one_script_tree tokens a b p q =
    let same : script_form a ≡ script_form b = one_script (script_form a) (script_form b) (map symbol tokens) p.spelled q.spelled in
    sym p.placed ∙ sym (script_again no_notes (notes_of tokens) a) ∙ ap (noted_script (notes_of tokens)) same ∙ script_again no_notes (notes_of tokens) b ∙ q.placed
