-- Runs of small scripts. What they come to is proved by computing.
use Rattle.std.specs.Prelude.{◌≡◌, ℕ, List, [], ◌∷◌, Option, Some, None, pos, codes}
use Rattle.php_value.specs.declared.fault.Fault.TheVariants as fault
use Rattle.php_machine.specs.Moves.{Outcome, Ended, Stuck, Unnumbered, Unfinished}
use Rattle.php_machine.specs.Machine.{runs}
use Rattle.php_ast.specs.declared.operator.Binary.TheVariants as op
use Rattle.php_ast.specs.declared.operator.Prefix.TheVariants as to
use Rattle.php_ast.specs.declared.operator.Assign.TheVariants as setting
use Rattle.php_ast.specs.declared.operator.Magic.TheVariants as magic_word
use Rattle.php_ast.specs.expression.Tree.{Leaf, variable, int, string, name, magic, parentheses, by_value}
use Rattle.php_ast.specs.expression.Tree.{Tree, leaf, template, enclosed, prefix, binary, assign, none, and, plain, no_piece, bytes, value}
use Rattle.php_ast.specs.statement.Tree.{Sequence, empty, then_also, Statement, block, blank, inline, expression, echo, no_statement, and_statement}
use Rattle.php_ast.specs.declaration.Tree.{of_statement, Script}
use Rattle.php_ast.specs.expression.View.{Note}
use Rattle.php_actions.specs.declared.ending.Ending.{Ending}
use Rattle.php_actions.specs.declared.ending.Ending.TheVariants.{Done, Fatal, Uncaught, Cut}
use Rattle.php_actions.specs.Data.{Data}
use Rattle.php_actions.specs.Plan.{rules}
use Rattle.php_actions.specs.Start.{first}
use Rattle.php_meaning.specs.Facts.{facts_of}
use Rattle.php_meaning.specs.Meaning.{tree}

-- how a run ends, with what output, after how many ticks and with how many writes

pub record Report : Type 0 where
  pub ending : Ending
  pub out : List ℕ
  pub ticks : ℕ
  pub writes : ℕ

abbrev pub report_of : Outcome Data Ending → Option Report
report_of (Ended e d) = Some (record { ending = e; out = d.out; ticks = d.taken; writes = d.writes })
report_of Stuck = None
report_of Unnumbered = None
report_of Unfinished = None

abbrev pub report : ℕ → Script Note → Option Report
report allowance script = report_of (runs (rules (facts_of script)) (tree script) 120 [] (first (facts_of script) allowance [] 0))

abbrev pub ends : Ending → List ℕ → ℕ → ℕ → Option Report
ends e out ticks writes = Some (record { ending = e; out = out; ticks = ticks; writes = writes })

-- the words of the examples

abbrev pub on_line : ℕ → Note
on_line n = record { place = 0; line = n; text = [] }

abbrev pub of_leaf : Leaf → Tree Note
of_leaf l = leaf (on_line 1) l

abbrev pub number : ℕ → Tree Note
number n = of_leaf (int (pos n))

abbrev pub text : List ℕ → Tree Note
text t = of_leaf (string t)

abbrev pub constant : List ℕ → Tree Note
constant n = of_leaf (name n)

abbrev pub $x : Tree Note
$x = of_leaf (variable (codes "x"))

abbrev pub set_x : Tree Note → Tree Note
set_x e = assign (by_value setting.Plain) $x e

abbrev pub does : Tree Note → Statement Note
does e = expression (on_line 1) e

abbrev pub writes_one : Tree Note → Statement Note
writes_one e = echo (on_line 2) (and none plain e)

abbrev pub script : List (Statement Note) → Script Note
script [] = empty
script (s ∷ []) = then_also empty (of_statement s)
script (s ∷ t ∷ []) = then_also (then_also empty (of_statement s)) (of_statement t)
script (s ∷ t ∷ u ∷ ss) = then_also (then_also (then_also empty (of_statement s)) (of_statement t)) (of_statement u)

pub record MeaningExamples : Type 0 where
  pub nothing : report 9 (script []) ≡ ends (Done 0) [] 0 0
  pub writes_bytes : report 9 (script (inline (on_line 1) (codes "ab") ∷ [])) ≡ ends (Done 0) (codes "ab") 1 0
  pub assigns_a_sum : report 9 (script (does (set_x (binary op.Plus (number 1) (number 2))) ∷ writes_one $x ∷ [])) ≡ ends (Done 0) (codes "3") 2 0
  pub reads_from_the_left : report 9 (script (writes_one (binary op.Minus (enclosed (on_line 1) parentheses (binary op.Minus (number 9) (number 3))) (number 1)) ∷ [])) ≡ ends (Done 0) (codes "5") 1 0
  pub assigns_twice : report 9 (script (writes_one (binary op.Plus (set_x (number 2)) (set_x (number 5))) ∷ writes_one $x ∷ [])) ≡ ends (Done 0) (codes "75") 2 0
  pub fills_a_template : report 9 (script (does (set_x (number 7)) ∷ writes_one (template (on_line 2) (bytes (value (bytes no_piece (codes "a")) $x) (codes "b"))) ∷ [])) ≡ ends (Done 0) (codes "a7b") 2 0
  pub casts : report 9 (script (writes_one (prefix (on_line 1) to.ToInt (text (codes "12"))) ∷ writes_one (prefix (on_line 1) to.Minus (number 3)) ∷ writes_one (prefix (on_line 1) to.Not (number 0)) ∷ [])) ≡ ends (Done 0) (codes "12-31") 3 0
  pub compares : report 9 (script (writes_one (binary op.Equal (number 1) (number 2)) ∷ writes_one (binary op.Compared (number 2) (number 3)) ∷ writes_one (binary op.NotIdentical (number 2) (text (codes "2"))) ∷ [])) ≡ ends (Done 0) (codes "-11") 3 0
  pub compares_the_right_side_too : report 9 (script (writes_one (binary op.Equal (number 1) (binary op.Divided (number 1) (number 0))) ∷ [])) ≡ ends (Uncaught (codes "DivisionByZeroError") (codes "Division by zero") (pos 2)) [] 1 0
  pub tells_two_truths_from_one : report 9 (script (writes_one (binary op.WordXor (number 1) (number 2)) ∷ writes_one (binary op.WordXor (number 0) (number 2)) ∷ [])) ≡ ends (Done 0) (codes "1") 2 0
  pub writes_each_before_the_next : report 9 (script (echo (on_line 2) (and (and none plain (number 1)) plain (binary op.Divided (number 1) (number 0))) ∷ [])) ≡ ends (Uncaught (codes "DivisionByZeroError") (codes "Division by zero") (pos 2)) (codes "1") 1 0
  pub blocks_and_blanks_take_no_tick : report 9 (script (block (on_line 1) (and_statement (and_statement no_statement (writes_one (number 1))) (writes_one (number 2))) ∷ blank (on_line 1) ∷ [])) ≡ ends (Done 0) (codes "12") 2 0
  pub prints_one : report 9 (script (writes_one (prefix (on_line 1) to.Print (text (codes "a"))) ∷ [])) ≡ ends (Done 0) (codes "a1") 1 0
  pub knows_its_line : report 9 (script (writes_one (leaf (on_line 6) (magic magic_word.Line)) ∷ writes_one (of_leaf (magic magic_word.Class)) ∷ [])) ≡ ends (Done 0) (codes "6") 2 0
  pub missing_variable_is_null : report 9 (script (writes_one $x ∷ [])) ≡ ends (Done 0) [] 1 0
  pub constants_in_any_case : report 9 (script (writes_one (of_leaf (name (codes "True"))) ∷ writes_one (of_leaf (name (codes "NULL"))) ∷ [])) ≡ ends (Done 0) (codes "1") 2 0
  pub constants_of_the_library : report 9 (script (writes_one (constant (codes "PHP_INT_SIZE")) ∷ writes_one (constant (codes "PHP_INT_MIN")) ∷ writes_one (binary op.Minus (constant (codes "STR_PAD_BOTH")) (constant (codes "STR_PAD_RIGHT"))) ∷ [])) ≡ ends (Done 0) (codes "8-92233720368547758081") 3 0
  pub line_feed : report 9 (script (writes_one (constant (codes "PHP_EOL")) ∷ [])) ≡ ends (Done 0) (10 ∷ []) 1 0
  pub past_the_greatest_int : report 9 (script (writes_one (text (codes "a")) ∷ writes_one (binary op.Plus (constant (codes "PHP_INT_MAX")) (number 1)) ∷ [])) ≡ ends (Fatal fault.Overflow 2) (codes "a") 2 0
  pub library_in_its_own_letters : report 9 (script (writes_one (constant (codes "php_int_max")) ∷ [])) ≡ ends (Uncaught (codes "Error") (codes "Undefined constant 'php_int_max'") (pos 2)) [] 1 0
  pub undefined_constant : report 9 (script (writes_one (of_leaf (name (codes "A"))) ∷ [])) ≡ ends (Uncaught (codes "Error") (codes "Undefined constant 'A'") (pos 2)) [] 1 0
  pub no_this : report 9 (script (writes_one (of_leaf (variable (codes "this"))) ∷ [])) ≡ ends (Uncaught (codes "Error") (codes "Using $this when not in object context") (pos 2)) [] 1 0
  pub division_by_zero : report 9 (script (inline (on_line 1) (codes "a") ∷ writes_one (binary op.Divided (number 1) (number 0)) ∷ writes_one (number 3) ∷ [])) ≡ ends (Uncaught (codes "DivisionByZeroError") (codes "Division by zero") (pos 2)) (codes "a") 2 0
  pub needs_a_float : report 9 (script (writes_one (binary op.Divided (number 1) (number 2)) ∷ [])) ≡ ends (Fatal fault.InexactQuotient 2) [] 1 0
  pub is_cut : report 1 (script (writes_one (number 1) ∷ writes_one (number 2) ∷ [])) ≡ ends Cut (codes "1") 1 0
