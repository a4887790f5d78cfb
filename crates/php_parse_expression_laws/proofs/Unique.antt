-- Flat expressions of one tree are the same, and so are two answers for the same tokens.
use Rattle.std.proofs.Common.{◌≡◌, ◌<◌, ℕ, zero, suc, true, List, refl, sym, ◌∙◌, ap, subst, arith}
use Rattle.php_token.specs.Token.{Token}
use Rattle.php_ast.specs.declared.expression.Expr.{Expr}
use Rattle.php_ast.specs.declared.expression.Expr.TheViews.{roll-Expr}
use Rattle.php_ast.specs.declared.expression.Expr.TheFolds.{ind-Expr}
use Rattle.php_grammar.specs.expression.Laws.{IsSpelled}
use Rattle.php_ast.specs.expression.View.{view}
use Rattle.php_build.specs.Flat.{is_flat}
use Rattle.php_parse_expression.specs.Exact.{between, IsRead}
use Rattle.php_parse_expression_laws.proofs.Layers.{node_same}
use Rattle.php_parse_expression_laws.proofs.Unview.{close, unview}
use Rattle.php_parse_expression_laws.proofs.Parts.{IsKept, Known, known}
use Rattle.php_parse_expression_laws.proofs.Nodes.{kept, node_kept}

kept_all : (e : Expr) → IsKept e
kept_all = ind-Expr IsKept (λ x y is. subst (λ z. IsKept (roll-Expr z)) (sym (node_same Known Expr known y) ∙ is) (kept y (node_kept y)))

-- a flat expression is what its tree goes back to
pub expression_back : (e : Expr) → is_flat e ≡ true → close (unview (view e)) ≡ e
expression_back e h = (kept_all e h).same

pub one_flat_expression : (e f : Expr) → is_flat e ≡ true → is_flat f ≡ true → view e ≡ view f → e ≡ f
one_flat_expression e f p q h = sym (expression_back e p) ∙ ap (λ t. close (unview t)) h ∙ expression_back f q

same_place : (k j : ℕ) → (k < j → ⊥) → (j < k → ⊥) → k ≡ j
same_place zero zero p q = refl
same_place zero (suc j) p q = absurd (p (omega arith))
same_place (suc k) zero p q = absurd (q (omega arith))
same_place (suc k) (suc j) p q = ap suc (same_place k j (λ h. p (omega (arith, h))) (λ h. q (omega (arith, h))))

pub one_answer : (depth at k j : ℕ) (tokens : List Token) (e f : Expr) → IsRead depth tokens at e k → IsRead depth tokens at f j → is_flat e ≡ true → is_flat f ≡ true → (e ≡ f) × (k ≡ j)
one_answer depth at k j tokens e f a b p q =
    let place = same_place k j (λ h. a.reaches.most j h b.reaches.within b.reaches.begins) (λ h. b.reaches.most k h a.reaches.within a.reaches.begins) in
    let shown = a.only (view f) (subst (λ n. IsSpelled tokens at (view f) (between tokens at n)) (sym place) b.spelled) in
    (one_flat_expression e f p q (sym shown), place)
