-- The laws of the reading of statements.
use Rattle.std.proofs.Common.{◌≡◌, List, [], ◌∷◌, refl, sym, ◌∙◌, ap}
use Rattle.php_ast.specs.Symbol.{Symbol}
use Rattle.php_grammar.specs.expression.Machine.{Nothing}
use Rattle.php_ast.specs.statement.Tree.{Statement, Statements, Catches, no_catch, and_catch}
use Rattle.php_ast.specs.statement.Spelling.{spell_statement}
use Rattle.php_ast.specs.statement.Proper.{IsProper}
use Rattle.php_grammar.specs.statement.Forms.{Around, StatementState, due_statement, done, due, past_block}
use Rattle.php_grammar.specs.statement.Reading.{fixed_symbols, halt_statement, read_statement}
use Rattle.php_grammar.specs.statement.Laws.{StatementEnds, SpellsStatement}
use Rattle.php_grammar.proofs.Machines.{Halts}
use Rattle.php_grammar.proofs.statement.Starts.{run}
use Rattle.php_grammar.proofs.statement.Back.{statement_read}

-- with nothing open, a statement ends in front of any symbol
statement_halts : (a : Statement Nothing) (v : List Symbol) → run (done a []) v ≡ record { tree = a; missing = []; unread = v }
statement_halts a [] = refl
statement_halts a (t ∷ w) = refl

-- ---- halting

block_unread : (body : Statements Nothing) (catches : Catches Nothing) (o : Around) (w : List Symbol) → (halt_statement (past_block body catches o) w).unread ≡ w
block_unread body no_catch o w = refl
block_unread body (and_catch catches classes n ss) o w = refl

block_tree : (body : Statements Nothing) (catches : Catches Nothing) (o : Around) (w : List Symbol) → (halt_statement (past_block body catches o) w).tree ≡ (halt_statement (past_block body catches o) []).tree
block_tree body no_catch o w = refl
block_tree body (and_catch catches classes n ss) o w = refl

block_missing : (body : Statements Nothing) (catches : Catches Nothing) (o : Around) (w : List Symbol)
    → (halt_statement (past_block body catches o) w).missing ≡ (halt_statement (past_block body catches o) []).missing
block_missing body no_catch o w = refl
block_missing body (and_catch catches classes n ss) o w = refl

statement_unread : (m : StatementState) (w : List Symbol) → (halt_statement m w).unread ≡ w
statement_unread (due xs m) w = statement_unread m w
statement_unread (past_block body catches o) w = block_unread body catches o w
statement_unread (due_statement o) w = refl
statement_unread _ w = refl

statement_tree : (m : StatementState) (w : List Symbol) → (halt_statement m w).tree ≡ (halt_statement m []).tree
statement_tree (due xs m) w = statement_tree m w
statement_tree (past_block body catches o) w = block_tree body catches o w
statement_tree (due_statement o) w = refl
statement_tree _ w = refl

statement_missing : (m : StatementState) (w : List Symbol) → (halt_statement m w).missing ≡ (halt_statement m []).missing
statement_missing (due xs m) w = ap (fixed_symbols xs) (statement_missing m w)
statement_missing (past_block body catches o) w = block_missing body catches o w
statement_missing (due_statement o) w = refl
statement_missing _ w = refl

pub statement_stops : Halts StatementState (Statement Nothing) halt_statement
statement_stops = record { unread = statement_unread; tree = statement_tree; missing = statement_missing }

-- ---- reading back

pub statements_read_back : (a : Statement Nothing) (v : List Symbol) → IsProper a → StatementEnds a v → read_statement (spell_statement a v) ≡ record { tree = a; missing = []; unread = v }
statements_read_back a v p h = statement_read a [] v p h ∙ statement_halts a v

pub one_statement : (a b : Statement Nothing) (w : List Symbol) → SpellsStatement a w → SpellsStatement b w → a ≡ b
one_statement a b w p q =
    ap (λ r. r.tree)
    (sym (statements_read_back a [] p.0 (record { no_else = λ x. refl; no_catch = λ x. refl })) ∙ ap read_statement (p.1 ∙ sym q.1)
    ∙ statements_read_back b [] q.0 (record { no_else = λ x. refl; no_catch = λ x. refl }))
