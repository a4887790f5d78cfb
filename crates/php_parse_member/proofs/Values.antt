-- Values of constants and of properties, from what the parser of expressions answers.
use Rattle.std.proofs.Common.{◌≡◌, ℕ, suc, Bool, true, false, Option, Some, None, List, [], ◌∷◌, refl, sym, ◌∙◌, ap}
use Rattle.std.specs.Prelude.{nat_lt}
use Rattle.php_token.specs.Token.{Token}
use Rattle.php_ast.specs.Symbol.{Symbol}
use Rattle.php_ast.specs.statement.Tree.{Sequence, Name, Variable}
use Rattle.php_ast.specs.declaration.Tree.{ClassConstant}
use Rattle.php_grammar.specs.expression.Machine.{Nothing, Form, State, expects, advance, halt}
use Rattle.php_grammar.specs.expression.Depth.{depth_at}
use Rattle.php_grammar.specs.statement.Role.{ending}
use Rattle.php_grammar.specs.declaration.MemberMachine.{Word, Modifiers, in_constant, in_property, with_constant, with_property, constant_end, property_end}
use Rattle.php_grammar_laws.specs.Walks.{OutcomeOf, whole, short, deep, outcome_by, outcome, stepped, halt_expression, walk_expression, walk_member, past, resumed}
use Rattle.php_grammar_laws.proofs.Instances.{members_lend_constants, members_lend_properties}
use Rattle.php_reader.specs.declared.fail.Stop.{Stop}
use Rattle.php_reader.specs.declared.fail.Stop.TheVariants.{Syntax, TooDeep, NoMemory}
use Rattle.php_reader.specs.Seen.{rest}
use Rattle.php_parse_operands.specs.Walk as inner
use Rattle.php_parse_operands.specs.Walk.{walk}
use Rattle.php_parse_simple.specs.Walk.{expression_outcome}
use Rattle.php_parse_simple.specs.Answer.{FailsInside}
use Rattle.php_parse_member.specs.Walk.{stopped}
use Rattle.php_parse_member.specs.Answer.{Fails, behind_constant, behind_property}
use Rattle.php_parse_member.proofs.Moves.{resumed_stopped}

-- ---- the walk of an expression, said in both ways

abbrev outward : inner.Outcome → OutcomeOf Form
outward (inner.whole e v) = whole e v
outward (inner.short v) = short v
outward (inner.deep v) = deep v

outcome_same : (missing : List Symbol) (e : Form) (v : List Symbol) → outcome_by missing e v ≡ outward (inner.outcome_of missing e v)
outcome_same [] e v = refl
outcome_same (t ∷ missing) e v = refl

stepped_same : (o : Option State) (b : Bool) (f : State → OutcomeOf Form) (g : State → inner.Outcome) (a : OutcomeOf Form) (c : inner.Outcome) (w : List Symbol) → ((x : State) → f x ≡ outward (g x)) → a ≡ outward c
    → stepped o b f a w ≡ outward (inner.stepped o b g c w)
stepped_same None b f g a c w next is = is
stepped_same (Some m) true f g a c w next is = refl
stepped_same (Some m) false f g a c w next is = next m

walk_same : (n : ℕ) (m : State) (w : List Symbol) → walk_expression n m w ≡ outward (walk n m w)
walk_same n m [] = outcome_same (halt m []).missing (halt m []).tree (halt m []).unread
walk_same n m (t ∷ w) =
    stepped_same (advance m t) (nat_lt n (depth_at m t)) (λ x. walk_expression n x w) (λ x. walk n x w) (outcome (halt_expression m (t ∷ w))) (inner.outcome (halt m (t ∷ w))) (t ∷ w)
    (λ x. walk_same n x w) (outcome_same (halt m (t ∷ w)).missing (halt m (t ∷ w)).tree (halt m (t ∷ w)).unread)

value_walk : (room n : ℕ) (w : List Symbol) → room ≡ suc n → walk_expression n (expects []) w ≡ outward (expression_outcome room w)
value_walk room n w is = walk_same n (expects []) w ∙ ap (λ k. outward (expression_outcome k w)) (sym is)

stopped_same : (too_deep : Bool) (v : List Symbol) → outward (inner.stopped too_deep v) ≡ stopped too_deep v
stopped_same true v = refl
stopped_same false v = refl

-- ---- a value

pub constant_reads : (room n : ℕ) (ms : Modifiers) (items : Sequence (ClassConstant Nothing)) (x : Word) (e : Form) (w v : List Symbol) → expression_outcome room w ≡ inner.whole e v → room ≡ suc n
    → walk_member n (in_constant ms items x (expects [])) w ≡ behind_constant ms (with_constant items x e) n v
constant_reads room n ms items x e w v read is =
    members_lend_constants n ms items x (expects []) w
    ∙ ap (resumed (λ f. past (λ t. constant_end ms (with_constant items x f) (ending t)) (walk_member n) short)) (value_walk room n w is ∙ ap outward read)

pub property_reads : (room n : ℕ) (ms : Modifiers) (items : Sequence (Variable Nothing)) (x : Name Nothing) (e : Form) (w v : List Symbol) → expression_outcome room w ≡ inner.whole e v → room ≡ suc n
    → walk_member n (in_property ms items x (expects [])) w ≡ behind_property ms (with_property items x (Some e)) n v
property_reads room n ms items x e w v read is =
    members_lend_properties n ms items x (expects []) w
    ∙ ap (resumed (λ f. past (λ t. property_end ms (with_property items x (Some f)) (ending t)) (walk_member n) short)) (value_walk room n w is ∙ ap outward read)

-- none

pub constant_fails : (room : ℕ) (tokens : List Token) (at : ℕ) (e : Stop) (ms : Modifiers) (items : Sequence (ClassConstant Nothing)) (x : Word) → FailsInside room tokens at e
    → Fails walk_member room (in_constant ms items x (expects [])) (rest tokens at) tokens at e
constant_fails room tokens at (Syntax k) ms items x r = record {
  halts = record {
    same = λ n is. members_lend_constants n ms items x (expects []) (rest tokens at)
        ∙ resumed_stopped false _ (walk_expression n (expects []) (rest tokens at)) (rest tokens k) (value_walk room n (rest tokens at) is ∙ ap outward r.halts);
  };
  ahead = r.ahead;
  within = r.within;
}
constant_fails room tokens at (TooDeep k) ms items x r = record {
  halts = record {
    same = λ n is. members_lend_constants n ms items x (expects []) (rest tokens at)
        ∙ resumed_stopped true _ (walk_expression n (expects []) (rest tokens at)) (rest tokens k) (value_walk room n (rest tokens at) is ∙ ap outward r.halts);
  };
  ahead = r.ahead;
  within = r.within;
}
constant_fails room tokens at NoMemory ms items x r = tt

pub property_fails : (room : ℕ) (tokens : List Token) (at : ℕ) (e : Stop) (ms : Modifiers) (items : Sequence (Variable Nothing)) (x : Name Nothing) → FailsInside room tokens at e
    → Fails walk_member room (in_property ms items x (expects [])) (rest tokens at) tokens at e
property_fails room tokens at (Syntax k) ms items x r = record {
  halts = record {
    same = λ n is. members_lend_properties n ms items x (expects []) (rest tokens at)
        ∙ resumed_stopped false _ (walk_expression n (expects []) (rest tokens at)) (rest tokens k) (value_walk room n (rest tokens at) is ∙ ap outward r.halts);
  };
  ahead = r.ahead;
  within = r.within;
}
property_fails room tokens at (TooDeep k) ms items x r = record {
  halts = record {
    same = λ n is. members_lend_properties n ms items x (expects []) (rest tokens at)
        ∙ resumed_stopped true _ (walk_expression n (expects []) (rest tokens at)) (rest tokens k) (value_walk room n (rest tokens at) is ∙ ap outward r.halts);
  };
  ahead = r.ahead;
  within = r.within;
}
property_fails room tokens at NoMemory ms items x r = tt
