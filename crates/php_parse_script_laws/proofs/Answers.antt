-- Of the parsers one after the other: any two answers are the same, but for want of memory.
use Rattle.std.proofs.Common.{◌≡◌, ◌≢◌, ◌≤◌, ℕ, ◌+◌, ◌-◌, true, Some, List, [], ◌++◌, map, take, drop, length, sym, ◌∙◌, ap, subst, arith, append_assoc}
use Rattle.std.specs.Prelude.{Result, Ok, Err, IfErr}
use Rattle.std.proofs.Math.Seq.{take-length}
use Rattle.std.proofs.lemmas.List.{append-nil}
use Rattle.php_token.specs.Token.{Token}
use Rattle.php_ast.specs.Symbol.{symbol}
use Rattle.php_ast.specs.declared.expression.Expr.{Expr}
use Rattle.php_ast.specs.declared.statement.Stmt.{Stmt}
use Rattle.php_ast.specs.declared.declaration.Signature as rust_signature
use Rattle.php_ast.specs.declared.script.Script as rust_script
use Rattle.php_ast.specs.expression.View.{view}
use Rattle.php_ast.specs.expression.Placed.{form_of}
use Rattle.php_ast.specs.expression.Nesting.{nests}
use Rattle.php_ast.specs.statement.Tree.{Statement}
use Rattle.php_ast.specs.statement.Placed.{statement_form}
use Rattle.php_ast.specs.statement.Nesting.{nests_statement}
use Rattle.php_ast.specs.statement.View.{statement_view}
use Rattle.php_ast.specs.declaration.Tree.{Signature}
use Rattle.php_ast.specs.declaration.Placed.{signature_form, script_form}
use Rattle.php_ast.specs.declaration.Nesting.{signature_nests, script_nests}
use Rattle.php_ast.specs.declaration.View.{signature_view, script_view}
use Rattle.php_grammar.specs.TooDeep.{first_too_deep}
use Rattle.php_grammar.specs.expression.Machine.{Nothing, Form}
use Rattle.php_grammar.specs.expression.Laws.{Spells, IsSpelled}
use Rattle.php_grammar.specs.statement.Laws.{SpellsStatement, IsSpelledStatement}
use Rattle.php_grammar.specs.declaration.Laws.{SpellsSignature, IsSpelledSignature, SpellsScript}
use Rattle.php_build.specs.Flat.{is_flat}
use Rattle.php_flat.specs.Statements.{is_flat_statement}
use Rattle.php_flat.specs.Declarations.{is_flat_signature, is_flat_script}
use Rattle.php_reader.specs.declared.fail.ParseFail.{ParseFail}
use Rattle.php_reader.specs.declared.fail.ParseFail.TheVariants.{Syntax, TooDeep, NoMemory}
use Rattle.php_reader.specs.Line.{line_at}
use Rattle.php_parse_expression.specs.Exact as of_expression
use Rattle.php_parse_expression.specs.Exact.{between, symbols}
use Rattle.php_parse_signature.specs.Exact as of_signature
use Rattle.php_parse_statement.specs.Exact as of_statement
use Rattle.php_parse_script.specs.Exact as of_script
use Rattle.php_parse_script.specs.Exact.{first_symbols}
use Rattle.php_parse_expression_laws.proofs.Layers.{two_same}
use Rattle.php_parse_expression_laws.proofs.Unique.{one_flat_expression}
use Rattle.php_parse_script_laws.specs.Answers.{IsScriptAnswer, IsStatementAnswer, IsSignatureAnswer, IsExpressionAnswer}
use Rattle.php_parse_script_laws.proofs.Alone.{Further, further, Reached}
use Rattle.php_parse_script_laws.proofs.Results.{Refused, answers_same}
use Rattle.php_parse_script_laws.proofs.Facts.{Facts, excludes}
use Rattle.php_parse_script_laws.proofs.Nodes.{statement_back}
use Rattle.php_parse_script_laws.proofs.Unview.{statement_of}
use Rattle.php_parse_script_laws.proofs.Declarations.{signature_of, signature_back, script_of, script_back}

-- ---- flat trees

pub one_flat_statement : (s t : Stmt) → is_flat_statement s ≡ true → is_flat_statement t ≡ true → statement_view s ≡ statement_view t → s ≡ t
one_flat_statement s t p q h = sym (statement_back s p) ∙ ap statement_of h ∙ statement_back t q

pub one_flat_signature : (s t : rust_signature.Signature) → is_flat_signature s ≡ true → is_flat_signature t ≡ true → signature_view s ≡ signature_view t → s ≡ t
one_flat_signature s t p q h = sym (signature_back s p) ∙ ap signature_of h ∙ signature_back t q

pub one_flat_script : (s t : rust_script.Script) → is_flat_script s ≡ true → is_flat_script t ≡ true → script_view s ≡ script_view t → s ≡ t
one_flat_script s t p q h = sym (script_back s p) ∙ ap script_of h ∙ script_back t q

-- ---- a part of a script

grows : (tokens : List Token) (at k j : ℕ) → k ≤ j → Further (symbols tokens at k) (symbols tokens at j)
grows tokens at k j le = further symbol (drop at tokens) (k - at) (j - at) (omega (arith, le))

-- ---- statements

abbrev statement_depths : Statement Nothing → List ℕ
statement_depths a = nests_statement a 0 []

statement_reached : (depth at k : ℕ) (tokens : List Token) → of_statement.Reaches tokens at k → Reached SpellsStatement statement_depths depth at (length tokens) (symbols tokens at) (grows tokens at) k
statement_reached depth at k tokens r = record {
  ahead = r.ahead;
  within = r.within;
  begins = record { tree = r.begins.tree; rest = r.begins.rest; spelled = r.begins.spelled };
  most = λ j less within b. r.most j less within (record { tree = b.tree; rest = b.rest; spelled = b.spelled });
}

statement_facts : (depth at : ℕ) (tokens : List Token)
    → Facts SpellsStatement statement_depths depth at (length tokens) (symbols tokens at) (grows tokens at) (line_at tokens) (λ (r : Stmt × ℕ). r.1) (λ r. of_statement.IsRead depth tokens at r.0 r.1)
    (λ r. is_flat_statement r.0 ≡ true) (of_statement.IsSyntax depth tokens at) (of_statement.IsTooDeep depth tokens at)
statement_facts depth at tokens = record {
  form = λ x. statement_form (statement_view x.0);
  read_reached = λ x a. statement_reached depth at x.1 tokens a.reaches;
  read_spelled = λ x a. a.spelled.spelled;
  read_shallow = λ x a. a.shallow;
  one_tree = λ x y a b p q is.
      two_same (λ (s : Stmt) (k : ℕ). (s, k)) (one_flat_statement x.0 y.0 p q (sym (a.only (statement_view y.0) (subst (λ n. IsSpelledStatement tokens at (statement_view y.0) (between tokens at n)) (sym is) b.spelled)))) is;
  syntax_reached = λ k l a. statement_reached depth at k tokens a.reaches;
  syntax_shallow = λ k l a. a.shallow;
  unspelled = λ x k l a b is. b.unspelled (statement_form (statement_view x.0)) (subst (λ n. SpellsStatement (statement_form (statement_view x.0)) (symbols tokens at n)) is a.spelled.spelled);
  syntax_line = λ k l a. a.on_line;
  sunk = λ k l a. record { ahead = a.ahead; within = a.within; begins = record { tree = a.begins.tree; rest = a.begins.rest; spelled = a.begins.spelled }; sinks = a.sinks };
  deep_line = λ k l a. a.on_line;
}

pub one_statement_answer : (depth at : ℕ) (tokens : List Token) (one other : Result (Stmt × ℕ) ParseFail) → IsStatementAnswer depth tokens at one → IsStatementAnswer depth tokens at other → one ≢ Err NoMemory → other ≢ Err NoMemory → one ≡ other
one_statement_answer depth at tokens one other a b =
    answers_same (λ r. of_statement.IsRead depth tokens at r.0 r.1) (λ r. is_flat_statement r.0 ≡ true) (of_statement.IsSyntax depth tokens at) (of_statement.IsTooDeep depth tokens at)
    (excludes SpellsStatement statement_depths depth at (length tokens) (symbols tokens at) (grows tokens at) (line_at tokens) (λ r. r.1) (λ r. of_statement.IsRead depth tokens at r.0 r.1) (λ r. is_flat_statement r.0 ≡ true)
    (of_statement.IsSyntax depth tokens at) (of_statement.IsTooDeep depth tokens at) (statement_facts depth at tokens))
    one other a.read a.flat (as_refused one a.refused) b.read b.flat (as_refused other b.refused)
  where
    as_refused : (r : Result (Stmt × ℕ) ParseFail) → IfErr r (of_statement.IsRefused depth tokens at) → IfErr r (Refused (of_statement.IsSyntax depth tokens at) (of_statement.IsTooDeep depth tokens at))
    as_refused (Ok x) h = h
    as_refused (Err (Syntax k l)) h = h
    as_refused (Err (TooDeep k l)) h = h
    as_refused (Err NoMemory) h = h

-- ---- signatures

abbrev signature_depths : Signature Nothing → List ℕ
signature_depths a = signature_nests a 0 []

signature_reached : (depth at k : ℕ) (tokens : List Token) → of_signature.Reaches tokens at k → Reached SpellsSignature signature_depths depth at (length tokens) (symbols tokens at) (grows tokens at) k
signature_reached depth at k tokens r = record {
  ahead = r.ahead;
  within = r.within;
  begins = record { tree = r.begins.tree; rest = r.begins.rest; spelled = r.begins.spelled };
  most = λ j less within b. r.most j less within (record { tree = b.tree; rest = b.rest; spelled = b.spelled });
}

signature_facts : (depth at : ℕ) (tokens : List Token)
    → Facts SpellsSignature signature_depths depth at (length tokens) (symbols tokens at) (grows tokens at) (line_at tokens) (λ (r : rust_signature.Signature × ℕ). r.1) (λ r. of_signature.IsRead depth tokens at r.0 r.1)
    (λ r. is_flat_signature r.0 ≡ true) (of_signature.IsSyntax depth tokens at) (of_signature.IsTooDeep depth tokens at)
signature_facts depth at tokens = record {
  form = λ x. signature_form (signature_view x.0);
  read_reached = λ x a. signature_reached depth at x.1 tokens a.reaches;
  read_spelled = λ x a. a.spelled.spelled;
  read_shallow = λ x a. a.shallow;
  one_tree = λ x y a b p q is.
      two_same (λ (s : rust_signature.Signature) (k : ℕ). (s, k)) (one_flat_signature x.0 y.0 p q (sym (a.only (signature_view y.0) (subst (λ n. IsSpelledSignature tokens at (signature_view y.0) (between tokens at n)) (sym is) b.spelled)))) is;
  syntax_reached = λ k l a. signature_reached depth at k tokens a.reaches;
  syntax_shallow = λ k l a. a.shallow;
  unspelled = λ x k l a b is. b.unspelled (signature_form (signature_view x.0)) (subst (λ n. SpellsSignature (signature_form (signature_view x.0)) (symbols tokens at n)) is a.spelled.spelled);
  syntax_line = λ k l a. a.on_line;
  sunk = λ k l a. record { ahead = a.ahead; within = a.within; begins = record { tree = a.begins.tree; rest = a.begins.rest; spelled = a.begins.spelled }; sinks = a.sinks };
  deep_line = λ k l a. a.on_line;
}

pub one_signature_answer : (depth at : ℕ) (tokens : List Token) (one other : Result (rust_signature.Signature × ℕ) ParseFail) → IsSignatureAnswer depth tokens at one → IsSignatureAnswer depth tokens at other → one ≢ Err NoMemory → other ≢ Err NoMemory → one ≡ other
one_signature_answer depth at tokens one other a b =
    answers_same (λ r. of_signature.IsRead depth tokens at r.0 r.1) (λ r. is_flat_signature r.0 ≡ true) (of_signature.IsSyntax depth tokens at) (of_signature.IsTooDeep depth tokens at)
    (excludes SpellsSignature signature_depths depth at (length tokens) (symbols tokens at) (grows tokens at) (line_at tokens) (λ r. r.1) (λ r. of_signature.IsRead depth tokens at r.0 r.1) (λ r. is_flat_signature r.0 ≡ true)
    (of_signature.IsSyntax depth tokens at) (of_signature.IsTooDeep depth tokens at) (signature_facts depth at tokens))
    one other a.read a.flat (as_refused one a.refused) b.read b.flat (as_refused other b.refused)
  where
    as_refused : (r : Result (rust_signature.Signature × ℕ) ParseFail) → IfErr r (of_signature.IsRefused depth tokens at) → IfErr r (Refused (of_signature.IsSyntax depth tokens at) (of_signature.IsTooDeep depth tokens at))
    as_refused (Ok x) h = h
    as_refused (Err (Syntax k l)) h = h
    as_refused (Err (TooDeep k l)) h = h
    as_refused (Err NoMemory) h = h

-- ---- expressions

abbrev expression_depths : Form → List ℕ
expression_depths a = nests a 0 []

expression_reached : (depth at k : ℕ) (tokens : List Token) → of_expression.Reaches tokens at k → Reached Spells expression_depths depth at (length tokens) (symbols tokens at) (grows tokens at) k
expression_reached depth at k tokens r = record {
  ahead = r.ahead;
  within = r.within;
  begins = record { tree = r.begins.tree; rest = r.begins.rest; spelled = r.begins.spelled };
  most = λ j less within b. r.most j less within (record { tree = b.tree; rest = b.rest; spelled = b.spelled });
}

expression_facts : (depth at : ℕ) (tokens : List Token)
    → Facts Spells expression_depths depth at (length tokens) (symbols tokens at) (grows tokens at) (line_at tokens) (λ (r : Expr × ℕ). r.1) (λ r. of_expression.IsRead depth tokens at r.0 r.1)
    (λ r. is_flat r.0 ≡ true) (of_expression.IsSyntax depth tokens at) (of_expression.IsTooDeep depth tokens at)
expression_facts depth at tokens = record {
  form = λ x. form_of (view x.0);
  read_reached = λ x a. expression_reached depth at x.1 tokens a.reaches;
  read_spelled = λ x a. a.spelled.spelled;
  read_shallow = λ x a. a.shallow;
  one_tree = λ x y a b p q is.
      two_same (λ (s : Expr) (k : ℕ). (s, k)) (one_flat_expression x.0 y.0 p q (sym (a.only (view y.0) (subst (λ n. IsSpelled tokens at (view y.0) (between tokens at n)) (sym is) b.spelled)))) is;
  syntax_reached = λ k l a. expression_reached depth at k tokens a.reaches;
  syntax_shallow = λ k l a. a.shallow;
  unspelled = λ x k l a b is. b.unspelled (form_of (view x.0)) (subst (λ n. Spells (form_of (view x.0)) (symbols tokens at n)) is a.spelled.spelled) (subst (of_expression.MayStand (form_of (view x.0)) tokens) is a.stands);
  syntax_line = λ k l a. a.on_line;
  sunk = λ k l a. record { ahead = a.ahead; within = a.within; begins = record { tree = a.begins.tree; rest = a.begins.rest; spelled = a.begins.spelled }; sinks = a.sinks };
  deep_line = λ k l a. a.on_line;
}

pub one_expression_answer : (depth at : ℕ) (tokens : List Token) (one other : Result (Expr × ℕ) ParseFail) → IsExpressionAnswer depth tokens at one → IsExpressionAnswer depth tokens at other → one ≢ Err NoMemory → other ≢ Err NoMemory → one ≡ other
one_expression_answer depth at tokens one other a b =
    answers_same (λ r. of_expression.IsRead depth tokens at r.0 r.1) (λ r. is_flat r.0 ≡ true) (of_expression.IsSyntax depth tokens at) (of_expression.IsTooDeep depth tokens at)
    (excludes Spells expression_depths depth at (length tokens) (symbols tokens at) (grows tokens at) (line_at tokens) (λ r. r.1) (λ r. of_expression.IsRead depth tokens at r.0 r.1) (λ r. is_flat r.0 ≡ true)
    (of_expression.IsSyntax depth tokens at) (of_expression.IsTooDeep depth tokens at) (expression_facts depth at tokens))
    one other a.read a.flat (as_refused one a.refused) b.read b.flat (as_refused other b.refused)
  where
    as_refused : (r : Result (Expr × ℕ) ParseFail) → IfErr r (of_expression.IsRefused depth tokens at) → IfErr r (Refused (of_expression.IsSyntax depth tokens at) (of_expression.IsTooDeep depth tokens at))
    as_refused (Ok x) h = h
    as_refused (Err (Syntax k l)) h = h
    as_refused (Err (TooDeep k l)) h = h
    as_refused (Err NoMemory) h = h

-- ---- scripts

first_grow : (tokens : List Token) (k j : ℕ) → k ≤ j → Further (first_symbols tokens k) (first_symbols tokens j)
first_grow tokens k j le = further symbol tokens k j le

abbrev ScriptReached : List Token → ℕ → Type 0
ScriptReached tokens k = Reached SpellsScript script_nests 0 0 (length tokens) (first_symbols tokens) (first_grow tokens) k

no_less : (k : ℕ) → k - 0 ≡ k
no_less k = omega arith

all_symbols : (tokens : List Token) → map symbol tokens ≡ first_symbols tokens (length tokens)
all_symbols tokens = ap (map symbol) (sym (take-length tokens))

script_spelled : (tokens : List Token) (s : rust_script.Script) → of_script.IsRead tokens s → SpellsScript (script_form (script_view s)) (first_symbols tokens (length tokens))
script_spelled tokens s a = subst (SpellsScript (script_form (script_view s))) (all_symbols tokens) a.spelled.spelled

read_reached : (tokens : List Token) (s : rust_script.Script) → of_script.IsRead tokens s → ScriptReached tokens (length tokens)
read_reached tokens s a = record {
  ahead = omega arith;
  within = omega arith;
  begins = record {
    tree = script_form (script_view s);
    rest = [];
    spelled = subst (SpellsScript (script_form (script_view s))) (sym (append-nil (first_symbols tokens (length tokens)))) (script_spelled tokens s a);
  };
  most = λ j less within b. absurd (omega (arith, less, within));
}

syntax_reached : (tokens : List Token) (k l : ℕ) → of_script.IsSyntax tokens k l → ScriptReached tokens k
syntax_reached tokens k l a = record {
  ahead = omega arith;
  within = a.within;
  begins = record { tree = a.begins.tree; rest = a.begins.rest; spelled = a.begins.spelled };
  most = λ j less within b.
      let r = first_grow tokens (k + 1) j (omega (arith, less)) in
      a.no_further (omega (arith, less, within)) (record {
        tree = b.tree;
        rest = r.more ++ b.rest;
        spelled = subst (SpellsScript b.tree) (ap (λ u. u ++ b.rest) r.is ∙ append_assoc (first_symbols tokens (k + 1)) r.more b.rest) b.spelled;
      });
}

script_facts : (tokens : List Token)
    → Facts SpellsScript script_nests 0 0 (length tokens) (first_symbols tokens) (first_grow tokens) (line_at tokens) (λ (s : rust_script.Script). length tokens) (of_script.IsRead tokens)
    (λ s. is_flat_script s ≡ true) (of_script.IsSyntax tokens) (of_script.IsTooDeep tokens)
script_facts tokens = record {
  form = λ s. script_form (script_view s);
  read_reached = read_reached tokens;
  read_spelled = script_spelled tokens;
  read_shallow = λ s a. a.shallow;
  one_tree = λ s t a b p q is. one_flat_script s t p q (b.only (script_view s) a.spelled);
  syntax_reached = syntax_reached tokens;
  syntax_shallow = λ k l a s more spells. ap (λ n. first_too_deep 0 (take n (script_nests s))) (no_less k) ∙ a.shallow s more spells;
  unspelled = λ s k l a b is. b.unspelled (sym is) (script_form (script_view s)) a.spelled.spelled;
  syntax_line = λ k l a. a.on_line;
  sunk = λ k l a. record {
    ahead = omega arith;
    within = a.within;
    begins = record { tree = a.begins.tree; rest = a.begins.rest; spelled = a.begins.spelled };
    sinks = λ s more spells. a.sinks s more spells ∙ ap Some (sym (no_less k));
  };
  deep_line = λ k l a. a.on_line;
}

pub one_script_answer : (tokens : List Token) (one other : Result rust_script.Script ParseFail) → IsScriptAnswer tokens one → IsScriptAnswer tokens other → one ≢ Err NoMemory → other ≢ Err NoMemory → one ≡ other
one_script_answer tokens one other a b =
    answers_same (of_script.IsRead tokens) (λ s. is_flat_script s ≡ true) (of_script.IsSyntax tokens) (of_script.IsTooDeep tokens)
    (excludes SpellsScript script_nests 0 0 (length tokens) (first_symbols tokens) (first_grow tokens) (line_at tokens) (λ s. length tokens) (of_script.IsRead tokens) (λ s. is_flat_script s ≡ true)
    (of_script.IsSyntax tokens) (of_script.IsTooDeep tokens) (script_facts tokens))
    one other a.read a.flat (as_refused one a.refused) b.read b.flat (as_refused other b.refused)
  where
    as_refused : (r : Result rust_script.Script ParseFail) → IfErr r (of_script.IsRefused tokens) → IfErr r (Refused (of_script.IsSyntax tokens) (of_script.IsTooDeep tokens))
    as_refused (Ok s) h = h
    as_refused (Err (Syntax k l)) h = h
    as_refused (Err (TooDeep k l)) h = h
    as_refused (Err NoMemory) h = h
