-- The notes of a statement depend on its form and its place alone.
use Rattle.std.proofs.Common.{◌≡◌, ℕ, ◌+◌, Option, Some, None, refl, ap}
use Rattle.php_ast.specs.expression.Tree.{Tree}
use Rattle.php_ast.specs.expression.Placed.{Notes, size, size_items}
use Rattle.php_ast.specs.statement.Tree.{Sequence, empty, then_also, Name, Variable, Constant, Target, Statement, block, blank, inline, expression, echo, globals, statics, unset, constants, jump, throw, if_only, if_else, if_lists, if_else_lists, while, do_while, for, foreach, switch, try_catch, try_finally, declares, Statements, no_statement, and_statement, ElseIfs, no_elseif, and_elseif, ElseIfLists, no_elseif_list, and_elseif_list, Body, single, list_behind_colon, Cases, no_case, and_case, Catches, no_catch, and_catch}
use Rattle.php_ast.specs.statement.Placed.{size_separator, size_separated, noted_separated, size_name, noted_name, size_optional, noted_optional, size_value, size_variable, noted_variable, size_constant, noted_constant, size_target, noted_target, size_if, size_key, noted_key, size_head, size_statement, size_statements, size_elseifs, size_elseif_lists, size_body, size_cases, size_catches, noted_statement, noted_statements, noted_elseifs, noted_elseif_lists, noted_body, noted_cases, noted_catches}
use Rattle.php_grammar.proofs.expression.Notes.{size_noted, items_noted, again, items_again}

-- ---- sequences

separator_noted : {A B : Type 0} (each : A → ℕ) (f : ℕ → A → B) (at : ℕ) (xs : Sequence A) → size_separator (noted_separated each f at xs) ≡ size_separator xs
separator_noted each f at empty = refl
separator_noted each f at (then_also xs x) = refl

pub separated_noted : {A B : Type 0} (each : A → ℕ) (other : B → ℕ) (f : ℕ → A → B) → ((at : ℕ) (x : A) → other (f at x) ≡ each x) → (at : ℕ) (xs : Sequence A)
    → size_separated other (noted_separated each f at xs) ≡ size_separated each xs
separated_noted each other f h at empty = refl
separated_noted each other f h at (then_also xs x) =
    cc (separated_noted each other f h at xs, separator_noted each f at xs, h (at + size_separated each xs + size_separator xs) x)

pub separated_again : {A B C : Type 0} (each : A → ℕ) (other : B → ℕ) (f : ℕ → A → B) (g : ℕ → B → C) (k : ℕ → A → C) → ((at : ℕ) (x : A) → other (f at x) ≡ each x)
    → ((i at : ℕ) (x : A) → g at (f i x) ≡ k at x) → (i at : ℕ) (xs : Sequence A) → noted_separated other g at (noted_separated each f i xs) ≡ noted_separated each k at xs
separated_again each other f g k h same i at empty = refl
separated_again each other f g k h same i at (then_also xs x) =
    cc (
      separated_again each other f g k h same i at xs,
      separated_noted each other f h i xs,
      separator_noted each f i xs,
      same (i + size_separated each xs + size_separator xs) (at + size_separated each xs + size_separator xs) x,
    )

-- ---- parts

pub name_again : {S T U : Type 0} (f : Notes T) (g : Notes U) (i at : ℕ) (n : Name S) → noted_name g at (noted_name f i n) ≡ noted_name g at n
name_again f g i at n = refl

pub optional_noted : {S T : Type 0} (f : Notes T) (at : ℕ) (e : Option (Tree S)) → size_optional (noted_optional f at e) ≡ size_optional e
optional_noted f at None = refl
optional_noted f at (Some e) = size_noted f at e

pub optional_again : {S T U : Type 0} (f : Notes T) (g : Notes U) (i at : ℕ) (e : Option (Tree S)) → noted_optional g at (noted_optional f i e) ≡ noted_optional g at e
optional_again f g i at None = refl
optional_again f g i at (Some e) = ap Some (again f g i at e)

pub value_noted : {S T : Type 0} (f : Notes T) (at : ℕ) (e : Option (Tree S)) → size_value (noted_optional f at e) ≡ size_value e
value_noted f at None = refl
value_noted f at (Some e) = cc (size_noted f at e)

pub variable_noted : {S T : Type 0} (f : Notes T) (at : ℕ) (x : Variable S) → size_variable (noted_variable f at x) ≡ size_variable x
variable_noted f at x = cc (value_noted f (at + 2) x.value)

pub variable_again : {S T U : Type 0} (f : Notes T) (g : Notes U) (i at : ℕ) (x : Variable S) → noted_variable g at (noted_variable f i x) ≡ noted_variable g at x
variable_again f g i at x = cc (optional_again f g (i + 2) (at + 2) x.value)

constant_noted : {S T : Type 0} (f : Notes T) (at : ℕ) (x : Constant S) → size_constant (noted_constant f at x) ≡ size_constant x
constant_noted f at x = cc (size_noted f (at + 2) x.value)

constant_again : {S T U : Type 0} (f : Notes T) (g : Notes U) (i at : ℕ) (x : Constant S) → noted_constant g at (noted_constant f i x) ≡ noted_constant g at x
constant_again f g i at x = cc (again f g (i + 2) (at + 2) x.value)

target_noted : {S T : Type 0} (f : Notes T) (at : ℕ) (t : Target S) → size_target (noted_target f at t) ≡ size_target t
target_noted f at t = cc (size_noted f (at + size_if t.is_reference) t.place)

target_again : {S T U : Type 0} (f : Notes T) (g : Notes U) (i at : ℕ) (t : Target S) → noted_target g at (noted_target f i t) ≡ noted_target g at t
target_again f g i at t = cc (again f g (i + size_if t.is_reference) (at + size_if t.is_reference) t.place)

key_noted : {S T : Type 0} (f : Notes T) (at : ℕ) (key : Option (Target S)) → size_key (noted_key f at key) ≡ size_key key
key_noted f at None = refl
key_noted f at (Some t) = cc (target_noted f at t)

key_again : {S T U : Type 0} (f : Notes T) (g : Notes U) (i at : ℕ) (key : Option (Target S)) → noted_key g at (noted_key f i key) ≡ noted_key g at key
key_again f g i at None = refl
key_again f g i at (Some t) = ap Some (target_again f g i at t)

-- ---- sizes

mutual
  pub statement_noted : {S T : Type 0} (f : Notes T) (at : ℕ) (x : Statement S) → size_statement (noted_statement f at x) ≡ size_statement x
  statement_noted f at (block note body) = cc (statements_noted f (at + 1) body)
  statement_noted f at (blank note) = refl
  statement_noted f at (inline note text) = refl
  statement_noted f at (expression note e) = cc (size_noted f at e)
  statement_noted f at (echo note values) = cc (items_noted f (at + 1) values)
  statement_noted f at (globals note names) = cc (separated_noted size_name size_name (noted_name f) (λ at n. refl) (at + 1) names)
  statement_noted f at (statics note variables) = cc (separated_noted size_variable size_variable (noted_variable f) (variable_noted f) (at + 1) variables)
  statement_noted f at (unset note places) = cc (items_noted f (at + 2) places)
  statement_noted f at (constants note items) = cc (separated_noted size_constant size_constant (noted_constant f) (constant_noted f) (at + 1) items)
  statement_noted f at (jump note kind value) = cc (optional_noted f (at + 1) value)
  statement_noted f at (throw note e) = cc (size_noted f (at + 1) e)
  statement_noted f at (if_only note test body parts) = cc (size_noted f (at + 2) test, statement_noted f (at + size_head test) body, elseifs_noted f (at + size_head test + size_statement body) parts)
  statement_noted f at (if_else note test body parts last) = cc (
    size_noted f (at + 2) test,
    statement_noted f (at + size_head test) body,
    elseifs_noted f (at + size_head test + size_statement body) parts,
    statement_noted f (at + size_head test + size_statement body + size_elseifs parts + 1) last,
  )
  statement_noted f at (if_lists note test body parts) = cc (
    size_noted f (at + 2) test,
    statements_noted f (at + size_head test + 1) body,
    elseif_lists_noted f (at + size_head test + 1 + size_statements body) parts,
  )
  statement_noted f at (if_else_lists note test body parts last) = cc (
    size_noted f (at + 2) test,
    statements_noted f (at + size_head test + 1) body,
    elseif_lists_noted f (at + size_head test + 1 + size_statements body) parts,
    statements_noted f (at + size_head test + 1 + size_statements body + size_elseif_lists parts + 2) last,
  )
  statement_noted f at (while note test body) = cc (size_noted f (at + 2) test, body_noted f (at + size_head test) body)
  statement_noted f at (do_while note body test) = cc (statement_noted f (at + 1) body, size_noted f (at + 1 + size_statement body + 2) test)
  statement_noted f at (for note firsts tests steps body) = cc (
    items_noted f (at + 2) firsts,
    items_noted f (at + 2 + size_items firsts + 1) tests,
    items_noted f (at + 2 + size_items firsts + 1 + size_items tests + 1) steps,
    body_noted f (at + 2 + size_items firsts + 1 + size_items tests + 1 + size_items steps + 1) body,
  )
  statement_noted f at (foreach note walked key value body) = cc (
    size_noted f (at + 2) walked,
    key_noted f (at + 2 + size walked + 1) key,
    target_noted f (at + 2 + size walked + 1 + size_key key) value,
    body_noted f (at + 2 + size walked + 1 + size_key key + size_target value + 1) body,
  )
  statement_noted f at (switch note e form cases) = cc (size_noted f (at + 2) e, cases_noted f (at + size_head e + 1) cases)
  statement_noted f at (try_catch note body catches) = cc (statements_noted f (at + 2) body, catches_noted f (at + 3 + size_statements body) catches)
  statement_noted f at (try_finally note body catches last) = cc (
    statements_noted f (at + 2) body,
    catches_noted f (at + 3 + size_statements body) catches,
    statements_noted f (at + 3 + size_statements body + size_catches catches + 2) last,
  )
  statement_noted f at (declares note n value) = refl

  pub statements_noted : {S T : Type 0} (f : Notes T) (at : ℕ) (x : Statements S) → size_statements (noted_statements f at x) ≡ size_statements x
  statements_noted f at no_statement = refl
  statements_noted f at (and_statement ss a) = cc (statements_noted f at ss, statement_noted f (at + size_statements ss) a)

  elseifs_noted : {S T : Type 0} (f : Notes T) (at : ℕ) (x : ElseIfs S) → size_elseifs (noted_elseifs f at x) ≡ size_elseifs x
  elseifs_noted f at no_elseif = refl
  elseifs_noted f at (and_elseif parts test body) = cc (elseifs_noted f at parts, size_noted f (at + size_elseifs parts + 2) test, statement_noted f (at + size_elseifs parts + size_head test) body)

  elseif_lists_noted : {S T : Type 0} (f : Notes T) (at : ℕ) (x : ElseIfLists S) → size_elseif_lists (noted_elseif_lists f at x) ≡ size_elseif_lists x
  elseif_lists_noted f at no_elseif_list = refl
  elseif_lists_noted f at (and_elseif_list parts test body) = cc (
    elseif_lists_noted f at parts,
    size_noted f (at + size_elseif_lists parts + 2) test,
    statements_noted f (at + size_elseif_lists parts + size_head test + 1) body,
  )

  body_noted : {S T : Type 0} (f : Notes T) (at : ℕ) (x : Body S) → size_body (noted_body f at x) ≡ size_body x
  body_noted f at (single s) = cc (statement_noted f at s)
  body_noted f at (list_behind_colon ss) = cc (statements_noted f (at + 1) ss)

  cases_noted : {S T : Type 0} (f : Notes T) (at : ℕ) (x : Cases S) → size_cases (noted_cases f at x) ≡ size_cases x
  cases_noted f at no_case = refl
  cases_noted f at (and_case cases note label end ss) = cc (
    cases_noted f at cases,
    optional_noted f (at + size_cases cases + 1) label,
    statements_noted f (at + size_cases cases + 1 + size_optional label + 1) ss,
  )

  catches_noted : {S T : Type 0} (f : Notes T) (at : ℕ) (x : Catches S) → size_catches (noted_catches f at x) ≡ size_catches x
  catches_noted f at no_catch = refl
  catches_noted f at (and_catch catches classes n ss) = cc (
    catches_noted f at catches,
    separated_noted size_name size_name (noted_name f) (λ at n. refl) (at + size_catches catches + 2) classes,
    statements_noted f (at + size_catches catches + 2 + size_separated size_name classes + 3) ss,
  )

-- ---- notes over notes

mutual
  pub statement_again : {S T U : Type 0} (f : Notes T) (g : Notes U) (i at : ℕ) (x : Statement S) → noted_statement g at (noted_statement f i x) ≡ noted_statement g at x
  statement_again f g i at (block note body) = cc (statements_again f g (i + 1) (at + 1) body)
  statement_again f g i at (blank note) = refl
  statement_again f g i at (inline note text) = refl
  statement_again f g i at (expression note e) = cc (again f g i at e)
  statement_again f g i at (echo note values) = cc (items_again f g (i + 1) (at + 1) values)
  statement_again f g i at (globals note names) = cc (separated_again size_name size_name (noted_name f) (noted_name g) (noted_name g) (λ at n. refl) (name_again f g) (i + 1) (at + 1) names)
  statement_again f g i at (statics note variables) = cc (separated_again size_variable size_variable (noted_variable f) (noted_variable g) (noted_variable g) (variable_noted f) (variable_again f g) (i + 1) (at + 1) variables)
  statement_again f g i at (unset note places) = cc (items_again f g (i + 2) (at + 2) places)
  statement_again f g i at (constants note items) = cc (separated_again size_constant size_constant (noted_constant f) (noted_constant g) (noted_constant g) (constant_noted f) (constant_again f g) (i + 1) (at + 1) items)
  statement_again f g i at (jump note kind value) = cc (optional_again f g (i + 1) (at + 1) value)
  statement_again f g i at (throw note e) = cc (again f g (i + 1) (at + 1) e)
  statement_again f g i at (if_only note test body parts) = cc (
    size_noted f (i + 2) test,
    again f g (i + 2) (at + 2) test,
    statement_noted f (i + size_head test) body,
    statement_again f g (i + size_head test) (at + size_head test) body,
    elseifs_again f g (i + size_head test + size_statement body) (at + size_head test + size_statement body) parts,
  )
  statement_again f g i at (if_else note test body parts last) = cc (
    size_noted f (i + 2) test,
    again f g (i + 2) (at + 2) test,
    statement_noted f (i + size_head test) body,
    statement_again f g (i + size_head test) (at + size_head test) body,
    elseifs_noted f (i + size_head test + size_statement body) parts,
    elseifs_again f g (i + size_head test + size_statement body) (at + size_head test + size_statement body) parts,
    statement_again f g (i + size_head test + size_statement body + size_elseifs parts + 1) (at + size_head test + size_statement body + size_elseifs parts + 1) last,
  )
  statement_again f g i at (if_lists note test body parts) = cc (
    size_noted f (i + 2) test,
    again f g (i + 2) (at + 2) test,
    statements_noted f (i + size_head test + 1) body,
    statements_again f g (i + size_head test + 1) (at + size_head test + 1) body,
    elseif_lists_again f g (i + size_head test + 1 + size_statements body) (at + size_head test + 1 + size_statements body) parts,
  )
  statement_again f g i at (if_else_lists note test body parts last) = cc (
    size_noted f (i + 2) test,
    again f g (i + 2) (at + 2) test,
    statements_noted f (i + size_head test + 1) body,
    statements_again f g (i + size_head test + 1) (at + size_head test + 1) body,
    elseif_lists_noted f (i + size_head test + 1 + size_statements body) parts,
    elseif_lists_again f g (i + size_head test + 1 + size_statements body) (at + size_head test + 1 + size_statements body) parts,
    statements_again f g (i + size_head test + 1 + size_statements body + size_elseif_lists parts + 2) (at + size_head test + 1 + size_statements body + size_elseif_lists parts + 2) last,
  )
  statement_again f g i at (while note test body) = cc (size_noted f (i + 2) test, again f g (i + 2) (at + 2) test, body_again f g (i + size_head test) (at + size_head test) body)
  statement_again f g i at (do_while note body test) = cc (
    statement_noted f (i + 1) body,
    statement_again f g (i + 1) (at + 1) body,
    again f g (i + 1 + size_statement body + 2) (at + 1 + size_statement body + 2) test,
  )
  statement_again f g i at (for note firsts tests steps body) = cc (
    items_noted f (i + 2) firsts,
    items_again f g (i + 2) (at + 2) firsts,
    items_noted f (i + 2 + size_items firsts + 1) tests,
    items_again f g (i + 2 + size_items firsts + 1) (at + 2 + size_items firsts + 1) tests,
    items_noted f (i + 2 + size_items firsts + 1 + size_items tests + 1) steps,
    items_again f g (i + 2 + size_items firsts + 1 + size_items tests + 1) (at + 2 + size_items firsts + 1 + size_items tests + 1) steps,
    body_again f g (i + 2 + size_items firsts + 1 + size_items tests + 1 + size_items steps + 1) (at + 2 + size_items firsts + 1 + size_items tests + 1 + size_items steps + 1) body,
  )
  statement_again f g i at (foreach note walked key value body) = cc (
    size_noted f (i + 2) walked,
    again f g (i + 2) (at + 2) walked,
    key_noted f (i + 2 + size walked + 1) key,
    key_again f g (i + 2 + size walked + 1) (at + 2 + size walked + 1) key,
    target_noted f (i + 2 + size walked + 1 + size_key key) value,
    target_again f g (i + 2 + size walked + 1 + size_key key) (at + 2 + size walked + 1 + size_key key) value,
    body_again f g (i + 2 + size walked + 1 + size_key key + size_target value + 1) (at + 2 + size walked + 1 + size_key key + size_target value + 1) body,
  )
  statement_again f g i at (switch note e form cases) = cc (size_noted f (i + 2) e, again f g (i + 2) (at + 2) e, cases_again f g (i + size_head e + 1) (at + size_head e + 1) cases)
  statement_again f g i at (try_catch note body catches) = cc (
    statements_noted f (i + 2) body,
    statements_again f g (i + 2) (at + 2) body,
    catches_again f g (i + 3 + size_statements body) (at + 3 + size_statements body) catches,
  )
  statement_again f g i at (try_finally note body catches last) = cc (
    statements_noted f (i + 2) body,
    statements_again f g (i + 2) (at + 2) body,
    catches_noted f (i + 3 + size_statements body) catches,
    catches_again f g (i + 3 + size_statements body) (at + 3 + size_statements body) catches,
    statements_again f g (i + 3 + size_statements body + size_catches catches + 2) (at + 3 + size_statements body + size_catches catches + 2) last,
  )
  statement_again f g i at (declares note n value) = refl

  pub statements_again : {S T U : Type 0} (f : Notes T) (g : Notes U) (i at : ℕ) (x : Statements S) → noted_statements g at (noted_statements f i x) ≡ noted_statements g at x
  statements_again f g i at no_statement = refl
  statements_again f g i at (and_statement ss a) = cc (statements_noted f i ss, statements_again f g i at ss, statement_again f g (i + size_statements ss) (at + size_statements ss) a)

  elseifs_again : {S T U : Type 0} (f : Notes T) (g : Notes U) (i at : ℕ) (x : ElseIfs S) → noted_elseifs g at (noted_elseifs f i x) ≡ noted_elseifs g at x
  elseifs_again f g i at no_elseif = refl
  elseifs_again f g i at (and_elseif parts test body) = cc (
    elseifs_noted f i parts,
    elseifs_again f g i at parts,
    size_noted f (i + size_elseifs parts + 2) test,
    again f g (i + size_elseifs parts + 2) (at + size_elseifs parts + 2) test,
    statement_again f g (i + size_elseifs parts + size_head test) (at + size_elseifs parts + size_head test) body,
  )

  elseif_lists_again : {S T U : Type 0} (f : Notes T) (g : Notes U) (i at : ℕ) (x : ElseIfLists S) → noted_elseif_lists g at (noted_elseif_lists f i x) ≡ noted_elseif_lists g at x
  elseif_lists_again f g i at no_elseif_list = refl
  elseif_lists_again f g i at (and_elseif_list parts test body) = cc (
    elseif_lists_noted f i parts,
    elseif_lists_again f g i at parts,
    size_noted f (i + size_elseif_lists parts + 2) test,
    again f g (i + size_elseif_lists parts + 2) (at + size_elseif_lists parts + 2) test,
    statements_again f g (i + size_elseif_lists parts + size_head test + 1) (at + size_elseif_lists parts + size_head test + 1) body,
  )

  body_again : {S T U : Type 0} (f : Notes T) (g : Notes U) (i at : ℕ) (x : Body S) → noted_body g at (noted_body f i x) ≡ noted_body g at x
  body_again f g i at (single s) = cc (statement_again f g i at s)
  body_again f g i at (list_behind_colon ss) = cc (statements_again f g (i + 1) (at + 1) ss)

  cases_again : {S T U : Type 0} (f : Notes T) (g : Notes U) (i at : ℕ) (x : Cases S) → noted_cases g at (noted_cases f i x) ≡ noted_cases g at x
  cases_again f g i at no_case = refl
  cases_again f g i at (and_case cases note label end ss) = cc (
    cases_noted f i cases,
    cases_again f g i at cases,
    optional_noted f (i + size_cases cases + 1) label,
    optional_again f g (i + size_cases cases + 1) (at + size_cases cases + 1) label,
    statements_again f g (i + size_cases cases + 1 + size_optional label + 1) (at + size_cases cases + 1 + size_optional label + 1) ss,
  )

  catches_again : {S T U : Type 0} (f : Notes T) (g : Notes U) (i at : ℕ) (x : Catches S) → noted_catches g at (noted_catches f i x) ≡ noted_catches g at x
  catches_again f g i at no_catch = refl
  catches_again f g i at (and_catch catches classes n ss) = cc (
    catches_noted f i catches,
    catches_again f g i at catches,
    separated_noted size_name size_name (noted_name f) (λ at n. refl) (i + size_catches catches + 2) classes,
    separated_again size_name size_name (noted_name f) (noted_name g) (noted_name g) (λ at n. refl) (name_again f g) (i + size_catches catches + 2) (at + size_catches catches + 2) classes,
    statements_again f g (i + size_catches catches + 2 + size_separated size_name classes + 3) (at + size_catches catches + 2 + size_separated size_name classes + 3) ss,
  )
