-- An expression inside another machine: what the walk of the machine of expressions comes to is what the walk of the outer
-- one goes on with.
use Rattle.std.proofs.Common.{◌≡◌, ℕ, ◌+◌, Bool, true, false, Option, Some, None, List, [], ◌∷◌, refl, sym, ◌∙◌, ap, subst, arith, ltb-true, ltb-false}
use Rattle.std.specs.Prelude.{nat_lt}
use Rattle.std.proofs.lemmas.Bool.{lt-ltb, le-ltb}
use Rattle.php_ast.specs.Symbol.{Symbol}
use Rattle.php_grammar.specs.Run.{either, if_some, ReadingOf, if_nothing, whole_before, through_expression}
use Rattle.php_grammar.specs.TooDeep.{depth_inside}
use Rattle.php_grammar.specs.expression.Machine.{Form, State, advance, halt}
use Rattle.php_grammar.specs.expression.Depth.{depth_at}
use Rattle.php_grammar.proofs.Inside.{Alike, halts_alike}
use Rattle.php_grammar.proofs.expression.LawProofs.{halt_unread}
use Rattle.php_parse_operands.specs.Walk as inner
use Rattle.php_parse_operands.specs.Walk.{walk}
use Rattle.php_grammar_laws.specs.Walks.{OutcomeOf, short, deep, outcome, stepped, walk_of}

-- ---- what halts in front of a symbol looks at that one alone

whole_alone : (m : State) (t : Symbol) (v : List Symbol) → whole_before m t ≡ if_nothing (halt m (t ∷ v)).missing (halt m (t ∷ v)).tree
whole_alone m t v =
    let a : Alike (halt m (t ∷ v)) (halt m (t ∷ [])) = halts_alike m t v in
    ap (λ e. if_nothing (halt m (t ∷ [])).missing e) (sym a.tree) ∙ ap (λ u. if_nothing u (halt m (t ∷ v)).tree) (sym a.missing)

-- ---- a machine that reads an expression

-- The states in which a machine does so, what it does with the expression before a symbol, and how many constructs are
-- open around it. Where it halts, something is missing.
pub record Inside (M A : Type 0) (step : M → Symbol → Option M) (depth : M → Symbol → ℕ) (stop : M → List Symbol → ReadingOf A) (k : ℕ) : Type 0 where
  pub on : State → M
  pub ended : Symbol → Form → Option M
  pub steps : (m : State) (t : Symbol) → step (on m) t ≡ through_expression m t on (ended t)
  pub counts : (m : State) (t : Symbol) → depth (on m) t ≡ depth_inside (advance m t) (depth_at m t) k
  pub lacks : (m : State) (w : List Symbol) → outcome (stop (on m) w) ≡ short w

-- behind the expression
abbrev pub walk_past : {M A : Type 0} → (M → Symbol → Option M) → (M → Symbol → ℕ) → (M → List Symbol → ReadingOf A) → ℕ → ℕ → (Symbol → Form → Option M) → Form → List Symbol → OutcomeOf A
walk_past step depth stop k n ended e [] = short []
walk_past step depth stop k n ended e (t ∷ v) = stepped (ended t e) (nat_lt n k) (λ x. walk_of step depth stop n x v) (short (t ∷ v)) (t ∷ v)

abbrev pub passed : {A : Type 0} → (Form → List Symbol → OutcomeOf A) → inner.Outcome → OutcomeOf A
passed go (inner.whole e v) = go e v
passed go (inner.short v) = short v
passed go (inner.deep v) = deep v

end_by : {A : Type 0} (go : Form → List Symbol → OutcomeOf A) (missing : List Symbol) (e : Form) (u : List Symbol) → u ≡ [] → ((f : Form) → go f [] ≡ short []) → passed go (inner.outcome_of missing e u) ≡ short []
end_by go [] e u is none = ap (go e) is ∙ none e
end_by go (x ∷ missing) e u is none = ap short is

halted_by : {M A : Type 0} (step : M → Symbol → Option M) (depth : M → Symbol → ℕ) (stop : M → List Symbol → ReadingOf A) (k n : ℕ) (ended : Symbol → Form → Option M) (missing : List Symbol) (e : Form) (u : List Symbol)
    (t : Symbol) (w : List Symbol) → u ≡ t ∷ w
    → stepped (if_some (if_nothing missing e) (ended t)) (nat_lt n k) (λ x. walk_of step depth stop n x w) (short (t ∷ w)) (t ∷ w)
    ≡ passed (walk_past step depth stop k n ended) (inner.outcome_of missing e u)
halted_by step depth stop k n ended [] e u t w is = ap (walk_past step depth stop k n ended e) (sym is)
halted_by step depth stop k n ended (x ∷ missing) e u t w is = ap short (sym is)

deeper_by : (b : Bool) (n k d : ℕ) → nat_lt n d ≡ b → nat_lt (n + k) (d + k) ≡ b
deeper_by true n k d h = lt-ltb (n + k) (d + k) (omega (arith, ltb-true n d h))
deeper_by false n k d h = le-ltb (n + k) (d + k) (omega (arith, ltb-false n d h))

bridge_by : {M A : Type 0} (step : M → Symbol → Option M) (depth : M → Symbol → ℕ) (stop : M → List Symbol → ReadingOf A) (k n N : ℕ) (r : Inside M A step depth stop k) (m : State) (t : Symbol) (w : List Symbol)
    (o : Option State) (b : Bool) → N ≡ n + k → advance m t ≡ o → nat_lt n (depth_at m t) ≡ b
    → ((x : State) → walk_of step depth stop N (r.on x) w ≡ passed (walk_past step depth stop k N r.ended) (walk n x w))
    → stepped (either (if_some o (λ x. Some (r.on x))) (if_some (whole_before m t) (r.ended t))) (nat_lt N (depth_inside o (depth_at m t) k)) (λ x. walk_of step depth stop N x w) (short (t ∷ w)) (t ∷ w)
    ≡ passed (walk_past step depth stop k N r.ended) (inner.stepped o b (λ x. walk n x w) (inner.outcome (halt m (t ∷ w))) (t ∷ w))
bridge_by step depth stop k n N r m t w None b sum is under next =
    ap (λ u. stepped (if_some u (r.ended t)) (nat_lt N k) (λ x. walk_of step depth stop N x w) (short (t ∷ w)) (t ∷ w)) (whole_alone m t w)
    ∙ halted_by step depth stop k N r.ended (halt m (t ∷ w)).missing (halt m (t ∷ w)).tree (halt m (t ∷ w)).unread t w (halt_unread m (t ∷ w))
bridge_by step depth stop k n N r m t w (Some x) true sum is under next =
    ap (λ b. stepped (Some (r.on x)) b (λ y. walk_of step depth stop N y w) (short (t ∷ w)) (t ∷ w)) (ap (λ z. nat_lt z (depth_at m t + k)) sum ∙ deeper_by true n k (depth_at m t) under)
bridge_by step depth stop k n N r m t w (Some x) false sum is under next =
    ap (λ b. stepped (Some (r.on x)) b (λ y. walk_of step depth stop N y w) (short (t ∷ w)) (t ∷ w)) (ap (λ z. nat_lt z (depth_at m t + k)) sum ∙ deeper_by false n k (depth_at m t) under)
    ∙ next x

-- A walk of the outer machine in an expression is the walk of the machine of expressions, and what the outer one does with
-- the tree and the symbol behind it.
pub bridge : {M A : Type 0} (step : M → Symbol → Option M) (depth : M → Symbol → ℕ) (stop : M → List Symbol → ReadingOf A) (k n N : ℕ) (r : Inside M A step depth stop k) (m : State) (w : List Symbol) → N ≡ n + k
    → walk_of step depth stop N (r.on m) w ≡ passed (walk_past step depth stop k N r.ended) (walk n m w)
bridge step depth stop k n N r m [] sum =
    r.lacks m [] ∙ sym (end_by (walk_past step depth stop k N r.ended) (halt m []).missing (halt m []).tree (halt m []).unread (halt_unread m []) (λ f. refl))
bridge step depth stop k n N r m (t ∷ w) sum =
    ap (λ z. stepped z (nat_lt N (depth (r.on m) t)) (λ x. walk_of step depth stop N x w) (outcome (stop (r.on m) (t ∷ w))) (t ∷ w)) (r.steps m t)
    ∙ ap (λ d. stepped (through_expression m t r.on (r.ended t)) (nat_lt N d) (λ x. walk_of step depth stop N x w) (outcome (stop (r.on m) (t ∷ w))) (t ∷ w)) (r.counts m t)
    ∙ ap (λ h. stepped (through_expression m t r.on (r.ended t)) (nat_lt N (depth_inside (advance m t) (depth_at m t) k)) (λ x. walk_of step depth stop N x w) h (t ∷ w)) (r.lacks m (t ∷ w))
    ∙ bridge_by step depth stop k n N r m t w (advance m t) (nat_lt n (depth_at m t)) sum refl refl (λ x. bridge step depth stop k n N r x w sum)
