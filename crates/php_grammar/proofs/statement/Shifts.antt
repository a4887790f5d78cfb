-- The nesting of a statement that stands deeper.
use Rattle.std.proofs.Common.{◌≡◌, ℕ, ◌+◌, Bool, true, false, Option, Some, None, List, ◌∷◌, refl, ◌∙◌, ap}
use Rattle.php_ast.specs.declared.statement.SwitchForm.{SwitchForm}
use Rattle.php_ast.specs.declared.statement.SwitchForm.TheVariants as switch_form
use Rattle.php_ast.specs.expression.Tree.{Tree}
use Rattle.php_ast.specs.expression.Nesting.{nests, nests_items}
use Rattle.php_ast.specs.statement.Tree.{Sequence, empty, then_also, Name, Variable, Constant, Target, Statement, block, blank, inline, expression, echo, globals, statics, unset, constants, jump, throw, if_only, if_else, if_lists, if_else_lists, while, do_while, for, foreach, switch, try_catch, try_finally, declares, Statements, no_statement, and_statement, ElseIfs, no_elseif, and_elseif, ElseIfLists, no_elseif_list, and_elseif_list, Body, single, list_behind_colon, Cases, no_case, and_case, Catches, no_catch, and_catch}
use Rattle.php_ast.specs.statement.Nesting.{separator_nests, separated_nests, name_nests, value_nests, variable_nests, constant_nests, optional_nests, nests_if, target_nests, key_nests, head_nests, body_depth, cases_end_nests, nests_statement, nests_statements, nests_elseifs, nests_elseif_lists, nests_body, nests_cases, nests_catches}
use Rattle.php_grammar.proofs.Deepened.{shifted}
use Rattle.php_grammar.proofs.expression.Shifts.{one_more, nests_shift, items_shift}

-- ---- parts

separator_shift : {A : Type 0} (xs : Sequence A) (d k : ℕ) (ns w : List ℕ) → separator_nests xs (d + k) (shifted k ns w) ≡ shifted k (separator_nests xs d ns) w
separator_shift empty d k ns w = refl
separator_shift (then_also xs x) d k ns w = refl

pub separated_shift : {A : Type 0} (each : A → ℕ → List ℕ → List ℕ) → ((x : A) (d k : ℕ) (ns w : List ℕ) → each x (d + k) (shifted k ns w) ≡ shifted k (each x d ns) w)
    → (xs : Sequence A) (d k : ℕ) (ns w : List ℕ) → separated_nests each xs (d + k) (shifted k ns w) ≡ shifted k (separated_nests each xs d ns) w
separated_shift each h empty d k ns w = refl
separated_shift each h (then_also xs x) d k ns w =
    ap (λ u. separated_nests each xs (d + k) (separator_nests xs (d + k) u)) (h x d k ns w)
    ∙ ap (separated_nests each xs (d + k)) (separator_shift xs d k (each x d ns) w) ∙ separated_shift each h xs d k (separator_nests xs d (each x d ns)) w

pub name_shift : {S : Type 0} (n : Name S) (d k : ℕ) (ns w : List ℕ) → name_nests n (d + k) (shifted k ns w) ≡ shifted k (name_nests n d ns) w
name_shift n d k ns w = refl

pub shift_if : (b : Bool) (d k : ℕ) (ns w : List ℕ) → nests_if b (d + k) (shifted k ns w) ≡ shifted k (nests_if b d ns) w
shift_if true d k ns w = refl
shift_if false d k ns w = refl

pub value_shift : {S : Type 0} (x : Option (Tree S)) (d k : ℕ) (ns w : List ℕ) → value_nests x (d + k) (shifted k ns w) ≡ shifted k (value_nests x d ns) w
value_shift None d k ns w = refl
value_shift (Some e) d k ns w = ap (λ u. (d + k) ∷ u) (nests_shift e d k ns w)

pub variable_shift : {S : Type 0} (x : Variable S) (d k : ℕ) (ns w : List ℕ) → variable_nests x (d + k) (shifted k ns w) ≡ shifted k (variable_nests x d ns) w
variable_shift x d k ns w = ap (λ u. (d + k) ∷ u) (value_shift x.value d k ns w)

pub constant_shift : {S : Type 0} (x : Constant S) (d k : ℕ) (ns w : List ℕ) → constant_nests x (d + k) (shifted k ns w) ≡ shifted k (constant_nests x d ns) w
constant_shift x d k ns w = ap (λ u. (d + k) ∷ (d + k) ∷ u) (nests_shift x.value d k ns w)

pub optional_shift : {S : Type 0} (x : Option (Tree S)) (d k : ℕ) (ns w : List ℕ) → optional_nests x (d + k) (shifted k ns w) ≡ shifted k (optional_nests x d ns) w
optional_shift None d k ns w = refl
optional_shift (Some e) d k ns w = nests_shift e d k ns w

pub target_shift : {S : Type 0} (x : Target S) (d k : ℕ) (ns w : List ℕ) → target_nests x (d + k) (shifted k ns w) ≡ shifted k (target_nests x d ns) w
target_shift t d k ns w = ap (λ u. nests_if t.is_reference (d + k) u) (nests_shift t.place d k ns w) ∙ shift_if t.is_reference d k (nests t.place d ns) w

pub key_shift : {S : Type 0} (x : Option (Target S)) (d k : ℕ) (ns w : List ℕ) → key_nests x (d + k) (shifted k ns w) ≡ shifted k (key_nests x d ns) w
key_shift None d k ns w = refl
key_shift (Some t) d k ns w = target_shift t d k (d ∷ ns) w

pub head_shift : {S : Type 0} (x : Tree S) (d k : ℕ) (ns w : List ℕ) → head_nests x (d + k) (shifted k ns w) ≡ shifted k (head_nests x d ns) w
head_shift test d k ns w =
    ap (λ x. (d + k) ∷ (d + k) ∷ nests test x (x ∷ shifted k ns w)) (one_more d k)
    ∙ ap (λ u. (d + k) ∷ (d + k) ∷ u) (nests_shift test (1 + d) k ((1 + d) ∷ ns) w)

cases_end_shift : (form : SwitchForm) (d k : ℕ) (ns w : List ℕ) → cases_end_nests form (d + k) (shifted k ns w) ≡ shifted k (cases_end_nests form d ns) w
cases_end_shift switch_form.Braces d k ns w = ap (λ x. x ∷ shifted k ns w) (one_more d k)
cases_end_shift switch_form.Colon d k ns w = refl

pub body_depth_shift : {S : Type 0} (a : Statement S) (d k : ℕ) → body_depth a (d + k) ≡ body_depth a d + k
body_depth_shift (block note body) d k = refl
body_depth_shift _ d k = one_more d k

-- ---- statements

mutual
  pub statement_shift : {S : Type 0} (x : Statement S) (d k : ℕ) (ns w : List ℕ) → nests_statement x (d + k) (shifted k ns w) ≡ shifted k (nests_statement x d ns) w
  statement_shift (block note body) d k ns w =
      ap (λ x. (d + k) ∷ nests_statements body x (x ∷ shifted k ns w)) (one_more d k)
      ∙ ap (λ u. (d + k) ∷ u) (statements_shift body (1 + d) k ((1 + d) ∷ ns) w)
  statement_shift (blank note) d k ns w = refl
  statement_shift (inline note text) d k ns w = refl
  statement_shift (expression note e) d k ns w = nests_shift e d k (d ∷ ns) w
  statement_shift (echo note values) d k ns w = ap (λ u. (d + k) ∷ u) (items_shift values d k (d ∷ ns) w)
  statement_shift (globals note names) d k ns w = ap (λ u. (d + k) ∷ u) (separated_shift name_nests name_shift names d k (d ∷ ns) w)
  statement_shift (statics note variables) d k ns w = ap (λ u. (d + k) ∷ u) (separated_shift variable_nests variable_shift variables d k (d ∷ ns) w)
  statement_shift (unset note places) d k ns w =
      ap (λ x. (d + k) ∷ (d + k) ∷ nests_items places x (x ∷ (d + k) ∷ shifted k ns w)) (one_more d k)
      ∙ ap (λ u. (d + k) ∷ (d + k) ∷ u) (items_shift places (1 + d) k ((1 + d) ∷ d ∷ ns) w)
  statement_shift (constants note items) d k ns w = ap (λ u. (d + k) ∷ u) (separated_shift constant_nests constant_shift items d k (d ∷ ns) w)
  statement_shift (jump note kind value) d k ns w = ap (λ u. (d + k) ∷ u) (optional_shift value d k (d ∷ ns) w)
  statement_shift (throw note e) d k ns w = ap (λ u. (d + k) ∷ u) (nests_shift e d k (d ∷ ns) w)
  statement_shift (if_only note test body parts) d k ns w =
      ap (λ u. head_nests test (d + k) (nests_statement body (body_depth body (d + k)) u)) (elseifs_shift parts d k ns w)
      ∙ ap (λ u. head_nests test (d + k) u) (ap (λ x. nests_statement body x (shifted k (nests_elseifs parts d ns) w)) (body_depth_shift body d k))
      ∙ ap (λ u. head_nests test (d + k) u) (statement_shift body (body_depth body d) k (nests_elseifs parts d ns) w)
      ∙ head_shift test d k (nests_statement body (body_depth body d) (nests_elseifs parts d ns)) w
  statement_shift (if_else note test body parts last) d k ns w =
      ap (λ u. head_nests test (d + k) (nests_statement body (body_depth body (d + k)) (nests_elseifs parts (d + k) ((d + k) ∷ u)))) (ap (λ x. nests_statement last x (shifted k ns w)) (body_depth_shift last d k))
      ∙ ap (λ u. head_nests test (d + k) (nests_statement body (body_depth body (d + k)) (nests_elseifs parts (d + k) ((d + k) ∷ u)))) (statement_shift last (body_depth last d) k ns w)
      ∙ ap (λ u. head_nests test (d + k) (nests_statement body (body_depth body (d + k)) u)) (elseifs_shift parts d k (d ∷ nests_statement last (body_depth last d) ns) w)
      ∙ ap (λ u. head_nests test (d + k) u) (ap (λ x. nests_statement body x (shifted k (nests_elseifs parts d (d ∷ nests_statement last (body_depth last d) ns)) w)) (body_depth_shift body d k))
      ∙ ap (λ u. head_nests test (d + k) u) (statement_shift body (body_depth body d) k (nests_elseifs parts d (d ∷ nests_statement last (body_depth last d) ns)) w)
      ∙ head_shift test d k (nests_statement body (body_depth body d) (nests_elseifs parts d (d ∷ nests_statement last (body_depth last d) ns))) w
  statement_shift (if_lists note test body parts) d k ns w =
      ap (λ x. head_nests test (d + k) ((d + k) ∷ nests_statements body x (nests_elseif_lists parts (d + k) ((d + k) ∷ (d + k) ∷ shifted k ns w)))) (one_more d k)
      ∙ ap (λ u. head_nests test (d + k) ((d + k) ∷ nests_statements body ((1 + d) + k) u)) (elseif_lists_shift parts d k (d ∷ d ∷ ns) w)
      ∙ ap (λ u. head_nests test (d + k) ((d + k) ∷ u)) (statements_shift body (1 + d) k (nests_elseif_lists parts d (d ∷ d ∷ ns)) w)
      ∙ head_shift test d k (d ∷ nests_statements body (1 + d) (nests_elseif_lists parts d (d ∷ d ∷ ns))) w
  statement_shift (if_else_lists note test body parts last) d k ns w =
      ap (λ x. head_nests test (d + k) ((d + k) ∷ nests_statements body x (nests_elseif_lists parts (d + k) ((d + k) ∷ (d + k) ∷ nests_statements last x ((d + k) ∷ (d + k) ∷ shifted k ns w))))) (one_more d k)
      ∙ ap (λ u. head_nests test (d + k) ((d + k) ∷ nests_statements body ((1 + d) + k) (nests_elseif_lists parts (d + k) ((d + k) ∷ (d + k) ∷ u)))) (statements_shift last (1 + d) k (d ∷ d ∷ ns) w)
      ∙ ap (λ u. head_nests test (d + k) ((d + k) ∷ nests_statements body ((1 + d) + k) u)) (elseif_lists_shift parts d k (d ∷ d ∷ nests_statements last (1 + d) (d ∷ d ∷ ns)) w)
      ∙ ap (λ u. head_nests test (d + k) ((d + k) ∷ u)) (statements_shift body (1 + d) k (nests_elseif_lists parts d (d ∷ d ∷ nests_statements last (1 + d) (d ∷ d ∷ ns))) w)
      ∙ head_shift test d k (d ∷ nests_statements body (1 + d) (nests_elseif_lists parts d (d ∷ d ∷ nests_statements last (1 + d) (d ∷ d ∷ ns)))) w
  statement_shift (while note test body) d k ns w = ap (λ u. head_nests test (d + k) u) (body_shift body d k ns w) ∙ head_shift test d k (nests_body body d ns) w
  statement_shift (do_while note body test) d k ns w =
      ap (λ u. (d + k) ∷ nests_statement body (body_depth body (d + k)) u) (head_shift test d k (d ∷ ns) w)
      ∙ ap (λ u. (d + k) ∷ u) (ap (λ x. nests_statement body x (shifted k (head_nests test d (d ∷ ns)) w)) (body_depth_shift body d k))
      ∙ ap (λ u. (d + k) ∷ u) (statement_shift body (body_depth body d) k (head_nests test d (d ∷ ns)) w)
  statement_shift (for note firsts tests steps body) d k ns w =
      ap (λ x. (d + k) ∷ (d + k) ∷ nests_items firsts x (x ∷ nests_items tests x (x ∷ nests_items steps x (x ∷ nests_body body (d + k) (shifted k ns w))))) (one_more d k)
      ∙ ap (λ u. (d + k) ∷ (d + k) ∷ nests_items firsts ((1 + d) + k) (((1 + d) + k) ∷ nests_items tests ((1 + d) + k) (((1 + d) + k) ∷ nests_items steps ((1 + d) + k) (((1 + d) + k) ∷ u)))) (body_shift body d k ns w)
      ∙ ap (λ u. (d + k) ∷ (d + k) ∷ nests_items firsts ((1 + d) + k) (((1 + d) + k) ∷ nests_items tests ((1 + d) + k) (((1 + d) + k) ∷ u))) (items_shift steps (1 + d) k ((1 + d) ∷ nests_body body d ns) w)
      ∙ ap (λ u. (d + k) ∷ (d + k) ∷ nests_items firsts ((1 + d) + k) (((1 + d) + k) ∷ u)) (items_shift tests (1 + d) k ((1 + d) ∷ nests_items steps (1 + d) ((1 + d) ∷ nests_body body d ns)) w)
      ∙ ap (λ u. (d + k) ∷ (d + k) ∷ u) (items_shift firsts (1 + d) k ((1 + d) ∷ nests_items tests (1 + d) ((1 + d) ∷ nests_items steps (1 + d) ((1 + d) ∷ nests_body body d ns))) w)
  statement_shift (foreach note walked key value body) d k ns w =
      ap (λ x. (d + k) ∷ (d + k) ∷ nests walked x (x ∷ key_nests key x (target_nests value x (x ∷ nests_body body (d + k) (shifted k ns w))))) (one_more d k)
      ∙ ap (λ u. (d + k) ∷ (d + k) ∷ nests walked ((1 + d) + k) (((1 + d) + k) ∷ key_nests key ((1 + d) + k) (target_nests value ((1 + d) + k) (((1 + d) + k) ∷ u)))) (body_shift body d k ns w)
      ∙ ap (λ u. (d + k) ∷ (d + k) ∷ nests walked ((1 + d) + k) (((1 + d) + k) ∷ key_nests key ((1 + d) + k) u)) (target_shift value (1 + d) k ((1 + d) ∷ nests_body body d ns) w)
      ∙ ap (λ u. (d + k) ∷ (d + k) ∷ nests walked ((1 + d) + k) (((1 + d) + k) ∷ u)) (key_shift key (1 + d) k (target_nests value (1 + d) ((1 + d) ∷ nests_body body d ns)) w)
      ∙ ap (λ u. (d + k) ∷ (d + k) ∷ u) (nests_shift walked (1 + d) k ((1 + d) ∷ key_nests key (1 + d) (target_nests value (1 + d) ((1 + d) ∷ nests_body body d ns))) w)
  statement_shift (switch note e form cases) d k ns w =
      ap (λ x. head_nests e (d + k) ((d + k) ∷ nests_cases cases x (cases_end_nests form (d + k) (shifted k ns w)))) (one_more d k)
      ∙ ap (λ u. head_nests e (d + k) ((d + k) ∷ nests_cases cases ((1 + d) + k) u)) (cases_end_shift form d k ns w)
      ∙ ap (λ u. head_nests e (d + k) ((d + k) ∷ u)) (cases_shift cases (1 + d) k (cases_end_nests form d ns) w)
      ∙ head_shift e d k (d ∷ nests_cases cases (1 + d) (cases_end_nests form d ns)) w
  statement_shift (try_catch note body catches) d k ns w =
      ap (λ x. (d + k) ∷ (d + k) ∷ nests_statements body x (x ∷ nests_catches catches (d + k) (shifted k ns w))) (one_more d k)
      ∙ ap (λ u. (d + k) ∷ (d + k) ∷ nests_statements body ((1 + d) + k) (((1 + d) + k) ∷ u)) (catches_shift catches d k ns w)
      ∙ ap (λ u. (d + k) ∷ (d + k) ∷ u) (statements_shift body (1 + d) k ((1 + d) ∷ nests_catches catches d ns) w)
  statement_shift (try_finally note body catches last) d k ns w =
      ap (λ x. (d + k) ∷ (d + k) ∷ nests_statements body x (x ∷ nests_catches catches (d + k) ((d + k) ∷ (d + k) ∷ nests_statements last x (x ∷ shifted k ns w)))) (one_more d k)
      ∙ ap (λ u. (d + k) ∷ (d + k) ∷ nests_statements body ((1 + d) + k) (((1 + d) + k) ∷ nests_catches catches (d + k) ((d + k) ∷ (d + k) ∷ u))) (statements_shift last (1 + d) k ((1 + d) ∷ ns) w)
      ∙ ap (λ u. (d + k) ∷ (d + k) ∷ nests_statements body ((1 + d) + k) (((1 + d) + k) ∷ u)) (catches_shift catches d k (d ∷ d ∷ nests_statements last (1 + d) ((1 + d) ∷ ns)) w)
      ∙ ap (λ u. (d + k) ∷ (d + k) ∷ u) (statements_shift body (1 + d) k ((1 + d) ∷ nests_catches catches d (d ∷ d ∷ nests_statements last (1 + d) ((1 + d) ∷ ns))) w)
  statement_shift (declares note n value) d k ns w = ap (λ x. (d + k) ∷ (d + k) ∷ x ∷ x ∷ x ∷ x ∷ (d + k) ∷ shifted k ns w) (one_more d k)

  pub statements_shift : {S : Type 0} (x : Statements S) (d k : ℕ) (ns w : List ℕ) → nests_statements x (d + k) (shifted k ns w) ≡ shifted k (nests_statements x d ns) w
  statements_shift no_statement d k ns w = refl
  statements_shift (and_statement ss a) d k ns w = ap (λ u. nests_statements ss (d + k) u) (statement_shift a d k ns w) ∙ statements_shift ss d k (nests_statement a d ns) w

  elseifs_shift : {S : Type 0} (x : ElseIfs S) (d k : ℕ) (ns w : List ℕ) → nests_elseifs x (d + k) (shifted k ns w) ≡ shifted k (nests_elseifs x d ns) w
  elseifs_shift no_elseif d k ns w = refl
  elseifs_shift (and_elseif parts test body) d k ns w =
      ap (λ u. nests_elseifs parts (d + k) (head_nests test (d + k) u)) (ap (λ x. nests_statement body x (shifted k ns w)) (body_depth_shift body d k))
      ∙ ap (λ u. nests_elseifs parts (d + k) (head_nests test (d + k) u)) (statement_shift body (body_depth body d) k ns w)
      ∙ ap (λ u. nests_elseifs parts (d + k) u) (head_shift test d k (nests_statement body (body_depth body d) ns) w)
      ∙ elseifs_shift parts d k (head_nests test d (nests_statement body (body_depth body d) ns)) w

  elseif_lists_shift : {S : Type 0} (x : ElseIfLists S) (d k : ℕ) (ns w : List ℕ) → nests_elseif_lists x (d + k) (shifted k ns w) ≡ shifted k (nests_elseif_lists x d ns) w
  elseif_lists_shift no_elseif_list d k ns w = refl
  elseif_lists_shift (and_elseif_list parts test body) d k ns w =
      ap (λ x. nests_elseif_lists parts (d + k) (head_nests test (d + k) ((d + k) ∷ nests_statements body x (shifted k ns w)))) (one_more d k)
      ∙ ap (λ u. nests_elseif_lists parts (d + k) (head_nests test (d + k) ((d + k) ∷ u))) (statements_shift body (1 + d) k ns w)
      ∙ ap (λ u. nests_elseif_lists parts (d + k) u) (head_shift test d k (d ∷ nests_statements body (1 + d) ns) w)
      ∙ elseif_lists_shift parts d k (head_nests test d (d ∷ nests_statements body (1 + d) ns)) w

  body_shift : {S : Type 0} (x : Body S) (d k : ℕ) (ns w : List ℕ) → nests_body x (d + k) (shifted k ns w) ≡ shifted k (nests_body x d ns) w
  body_shift (single s) d k ns w = ap (λ x. nests_statement s x (shifted k ns w)) (body_depth_shift s d k) ∙ statement_shift s (body_depth s d) k ns w
  body_shift (list_behind_colon ss) d k ns w =
      ap (λ x. (d + k) ∷ nests_statements ss x ((d + k) ∷ (d + k) ∷ shifted k ns w)) (one_more d k)
      ∙ ap (λ u. (d + k) ∷ u) (statements_shift ss (1 + d) k (d ∷ d ∷ ns) w)

  cases_shift : {S : Type 0} (x : Cases S) (d k : ℕ) (ns w : List ℕ) → nests_cases x (d + k) (shifted k ns w) ≡ shifted k (nests_cases x d ns) w
  cases_shift no_case d k ns w = refl
  cases_shift (and_case cases note label end ss) d k ns w =
      ap (λ u. nests_cases cases (d + k) ((d + k) ∷ optional_nests label (d + k) ((d + k) ∷ u))) (statements_shift ss d k ns w)
      ∙ ap (λ u. nests_cases cases (d + k) ((d + k) ∷ u)) (optional_shift label d k (d ∷ nests_statements ss d ns) w)
      ∙ cases_shift cases d k (d ∷ optional_nests label d (d ∷ nests_statements ss d ns)) w

  catches_shift : {S : Type 0} (x : Catches S) (d k : ℕ) (ns w : List ℕ) → nests_catches x (d + k) (shifted k ns w) ≡ shifted k (nests_catches x d ns) w
  catches_shift no_catch d k ns w = refl
  catches_shift (and_catch catches classes n ss) d k ns w =
      ap (λ x. nests_catches catches (d + k) ((d + k) ∷ (d + k) ∷ separated_nests name_nests classes x (x ∷ x ∷ (d + k) ∷ nests_statements ss x (x ∷ shifted k ns w)))) (one_more d k)
      ∙ ap (λ u. nests_catches catches (d + k) ((d + k) ∷ (d + k) ∷ separated_nests name_nests classes ((1 + d) + k) (((1 + d) + k) ∷ ((1 + d) + k) ∷ (d + k) ∷ u))) (statements_shift ss (1 + d) k ((1 + d) ∷ ns) w)
      ∙ ap (λ u. nests_catches catches (d + k) ((d + k) ∷ (d + k) ∷ u)) (separated_shift name_nests name_shift classes (1 + d) k ((1 + d) ∷ (1 + d) ∷ d ∷ nests_statements ss (1 + d) ((1 + d) ∷ ns)) w)
      ∙ catches_shift catches d k (d ∷ d ∷ separated_nests name_nests classes (1 + d) ((1 + d) ∷ (1 + d) ∷ d ∷ nests_statements ss (1 + d) ((1 + d) ∷ ns))) w
