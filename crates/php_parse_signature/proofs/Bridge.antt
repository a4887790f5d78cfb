-- From the machine of expressions to that of signatures: the value of a parameter is read as any expression is, one level
-- deeper.
use Rattle.std.proofs.Common.{◌≡◌, ℕ, suc, ◌+◌, Bool, true, false, Option, Some, None, List, [], ◌∷◌, ◌++◌, refl, sym, ◌∙◌, ap, arith, ltb-true, ltb-false}
use Rattle.std.specs.Prelude.{nat_lt}
use Rattle.std.proofs.lemmas.Bool.{lt-ltb, le-ltb}
use Rattle.php_ast.specs.Symbol.{Symbol}
use Rattle.php_ast.specs.declaration.Tree.{Param, Signature}
use Rattle.php_ast.specs.statement.Tree.{then_also}
use Rattle.php_grammar.specs.Run.{either, if_some, if_nothing, whole_before}
use Rattle.php_grammar.specs.expression.Machine.{Nothing, Form, State, advance, halt}
use Rattle.php_grammar.specs.expression.Depth.{depth_at}
use Rattle.php_grammar.specs.TooDeep.{depth_inside}
use Rattle.php_grammar.specs.statement.Role.{ending}
use Rattle.php_grammar.specs.declaration.SignatureMachine.{Params, in_default, with_default, with_param, closing, param_end, halt_signature}
use Rattle.php_parse_operands.specs.Walk as inner
use Rattle.php_parse_expression.proofs.Walked.{halt_unread}
use Rattle.php_grammar.proofs.Inside.{Alike, halts_alike}
use Rattle.php_grammar_laws.specs.Walks.{OutcomeOf, short, deep, outcome, outcome_by, stepped, walk_signature}

-- ---- what the outer machine makes of an outcome inside

-- where an expression is over in front of these symbols
abbrev pub ended : ℕ → Params → Param Nothing → Form → List Symbol → OutcomeOf (Signature Nothing)
ended n params p e [] = short []
ended n params p e (t ∷ w) =
    stepped (param_end (then_also params (with_default p e)) (ending t)) (nat_lt (suc n) 1) (λ x. walk_signature (suc n) x w) (short (t ∷ w)) (t ∷ w)

abbrev pub carried : ℕ → Params → Param Nothing → inner.Outcome → OutcomeOf (Signature Nothing)
carried n params p (inner.whole e w) = ended n params p e w
carried n params p (inner.short w) = short w
carried n params p (inner.deep w) = deep w

missing_more : (missing unread : List Symbol) (s : Signature Nothing) (w : List Symbol) → unread ≡ closing → outcome_by (missing ++ unread) s w ≡ short w
missing_more [] unread s w is = ap (λ u. outcome_by u s w) is
missing_more (t ∷ missing) unread s w is = refl

-- a signature always lacks its `)` in a value
pub lacks_end : (params : Params) (p : Param Nothing) (m : State) (w : List Symbol) → outcome (halt_signature (in_default params p m) w) ≡ short w
lacks_end params p m w = missing_more (halt m closing).missing (halt m closing).unread (with_param params (with_default p (halt m closing).tree)) w (halt_unread m closing)

at_end : (n : ℕ) (params : Params) (p : Param Nothing) (missing : List Symbol) (e : Form) (unread : List Symbol) → unread ≡ [] → short [] ≡ carried n params p (inner.outcome_of missing e unread)
at_end n params p [] e unread is = sym (ap (ended n params p e) is)
at_end n params p (t ∷ missing) e unread is = sym (ap short is)

-- the inner machine can't take the symbol
stuck_by : (n : ℕ) (params : Params) (p : Param Nothing) (t : Symbol) (w missing : List Symbol) (e : Form) (unread : List Symbol) → unread ≡ t ∷ w
    → stepped (if_some (if_nothing missing e) (λ x. param_end (then_also params (with_default p x)) (ending t))) (nat_lt (suc n) 1) (λ x. walk_signature (suc n) x w) (short (t ∷ w)) (t ∷ w)
    ≡ carried n params p (inner.outcome_of missing e unread)
stuck_by n params p t w [] e unread is = sym (ap (ended n params p e) is)
stuck_by n params p t w (x ∷ missing) e unread is = sym (ap short is)

stuck : (n : ℕ) (params : Params) (p : Param Nothing) (m : State) (t : Symbol) (w : List Symbol)
    → stepped (if_some (whole_before m t) (λ x. param_end (then_also params (with_default p x)) (ending t))) (nat_lt (suc n) 1) (λ x. walk_signature (suc n) x w) (outcome (halt_signature (in_default params p m) (t ∷ w))) (t ∷ w)
    ≡ carried n params p (inner.outcome (halt m (t ∷ w)))
stuck n params p m t w =
    let same : Alike (halt m (t ∷ w)) (halt m (t ∷ [])) = halts_alike m t w in
    ap (λ o. stepped (if_some (whole_before m t) (λ x. param_end (then_also params (with_default p x)) (ending t))) (nat_lt (suc n) 1) (λ x. walk_signature (suc n) x w) o (t ∷ w)) (lacks_end params p m (t ∷ w))
    ∙ ap (λ u. stepped (if_some (if_nothing u (halt m (t ∷ [])).tree) (λ x. param_end (then_also params (with_default p x)) (ending t))) (nat_lt (suc n) 1) (λ x. walk_signature (suc n) x w) (short (t ∷ w)) (t ∷ w)) (sym same.missing)
    ∙ ap (λ e. stepped (if_some (if_nothing (halt m (t ∷ w)).missing e) (λ x. param_end (then_also params (with_default p x)) (ending t))) (nat_lt (suc n) 1) (λ x. walk_signature (suc n) x w) (short (t ∷ w)) (t ∷ w)) (sym same.tree)
    ∙ stuck_by n params p t w (halt m (t ∷ w)).missing (halt m (t ∷ w)).tree (halt m (t ∷ w)).unread (halt_unread m (t ∷ w))

-- the inner machine takes it
deeper_by : (b : Bool) (n d : ℕ) → nat_lt n d ≡ b → nat_lt (suc n) (d + 1) ≡ b
deeper_by true n d is = lt-ltb (suc n) (d + 1) (omega (arith, ltb-true n d is))
deeper_by false n d is = le-ltb (suc n) (d + 1) (omega (arith, ltb-false n d is))

taken_by : (b : Bool) (n : ℕ) (params : Params) (p : Param Nothing) (x : State) (t : Symbol) (w : List Symbol) (a : OutcomeOf (Signature Nothing)) (c : inner.Outcome)
    → walk_signature (suc n) (in_default params p x) w ≡ carried n params p (inner.walk n x w)
    → stepped (Some (in_default params p x)) b (λ y. walk_signature (suc n) y w) a (t ∷ w) ≡ carried n params p (inner.stepped (Some x) b (λ y. inner.walk n y w) c (t ∷ w))
taken_by true n params p x t w a c next = refl
taken_by false n params p x t w a c next = next

bridge_by : (o : Option State) (n : ℕ) (params : Params) (p : Param Nothing) (m : State) (t : Symbol) (w : List Symbol)
    → ((x : State) → walk_signature (suc n) (in_default params p x) w ≡ carried n params p (inner.walk n x w))
    → stepped (either (if_some o (λ x. Some (in_default params p x))) (if_some (whole_before m t) (λ e. param_end (then_also params (with_default p e)) (ending t))))
    (nat_lt (suc n) (depth_inside o (depth_at m t) 1)) (λ x. walk_signature (suc n) x w) (outcome (halt_signature (in_default params p m) (t ∷ w))) (t ∷ w)
    ≡ carried n params p (inner.stepped o (nat_lt n (depth_at m t)) (λ x. inner.walk n x w) (inner.outcome (halt m (t ∷ w))) (t ∷ w))
bridge_by None n params p m t w next = stuck n params p m t w
bridge_by (Some x) n params p m t w next =
    ap (λ b. stepped (Some (in_default params p x)) b (λ y. walk_signature (suc n) y w) (outcome (halt_signature (in_default params p m) (t ∷ w))) (t ∷ w)) (deeper_by (nat_lt n (depth_at m t)) n (depth_at m t) refl)
    ∙ taken_by (nat_lt n (depth_at m t)) n params p x t w (outcome (halt_signature (in_default params p m) (t ∷ w))) (inner.outcome (halt m (t ∷ w))) (next x)

pub bridge : (n : ℕ) (params : Params) (p : Param Nothing) (m : State) (w : List Symbol) → walk_signature (suc n) (in_default params p m) w ≡ carried n params p (inner.walk n m w)
bridge n params p m [] = lacks_end params p m [] ∙ at_end n params p (halt m []).missing (halt m []).tree (halt m []).unread (halt_unread m [])
bridge n params p m (t ∷ w) = bridge_by (advance m t) n params p m t w (λ x. bridge n params p x w)
