-- Where no level of nesting is left.
use Rattle.std.proofs.Common.{◌≡◌, ◌≢◌, ◌≤◌, ◌<◌, ℕ, true, Option, Some, None, List, ◌∷◌, refl, sym, ◌∙◌, ap, subst, arith}
use Rattle.php_ast.specs.Symbol.{Symbol}
use Rattle.std.proofs.lemmas.Bool.{lt-ltb}
use Rattle.php_ast.specs.declared.operator.ArrayForm.TheVariants as array_form
use Rattle.php_grammar.specs.expression.Depth.{depth_at}
use Rattle.php_ast.specs.expression.Tree.{parentheses, emptiness, exiting, array, is_set}
use Rattle.php_grammar.specs.expression.Role.{Beginning, at_leaf, at_static, at_template, at_exit, at_new, at_yield, at_enclosed, at_listed, at_prefix, at_nothing, beginning}
use Rattle.php_ast.specs.expression.Proper.{operand_level, free}
use Rattle.php_grammar.specs.expression.Machine.{OpenForms, State, expects, least_power, prefix_open, past_yield, allowed_if, advance, start, started}
use Rattle.php_parse_operands.specs.Walk.{Halts, walk, deep}
use Rattle.php_parse_operands.proofs.Moves.{sinks}

abbrev pub IsSome : {A : Type 0} → Option A → Type 0
IsSome None = ⊥
IsSome (Some x) = Unit {0}

-- where no level is left, what begins an expression is nested too deep
deep_by : (b : Beginning) (s : OpenForms) → least_power s ≤ free → b ≢ at_nothing → IsSome (started b s)
deep_by (at_leaf l) s low h = tt
deep_by at_static s low h = tt
deep_by at_template s low h = tt
deep_by at_exit s low h = tt
deep_by at_new s low h = tt
deep_by at_yield s low h = subst (λ b. IsSome (allowed_if b (past_yield s))) (sym (lt-ltb (least_power s) operand_level (omega arith))) tt
deep_by (at_enclosed parentheses) s low h = tt
deep_by (at_enclosed emptiness) s low h = tt
deep_by (at_enclosed exiting) s low h = tt
deep_by (at_listed (array array_form.Brackets)) s low h = tt
deep_by (at_listed (array array_form.Array)) s low h = tt
deep_by (at_listed (array array_form.List)) s low h = tt
deep_by (at_listed is_set) s low h = tt
deep_by (at_prefix op) s low h = subst (λ b. IsSome (allowed_if b (expects (prefix_open op ∷ s)))) (sym (lt-ltb (least_power s) operand_level (omega arith))) tt
deep_by at_nothing s low h = absurd (h refl)

sinks_some : (n : ℕ) (m : State) (t : Symbol) (w : List Symbol) (o : Option State) → advance m t ≡ o → IsSome o → n < depth_at m t → walk n m (t ∷ w) ≡ deep (t ∷ w)
sinks_some n m t w (Some to) is some under = sinks n m to t w is under
sinks_some n m t w None is some under = absurd some

pub sinks_here : {least : ℕ} {x w : List Symbol} (t : Symbol) → least ≤ free → x ≡ t ∷ w → beginning t ≢ at_nothing → Halts true 0 least (λ s. expects s) x x
sinks_here {least} {x} {w} t low is some = record {
  same = λ n s whole near at. ap (walk n (expects s)) is ∙ sinks_some n (expects s) t w (start s t) refl (deep_by (beginning t) s (omega arith) some) (omega arith) ∙ ap deep (sym is);
}
