-- Small trees, flat and not.
use Rattle.std.proofs.Common.{◌≡◌, true, false, [], ◌∷◌, not, ◌&&◌, sym, ◌∙◌, ap}
use Rattle.php_ast.specs.declared.spot.Spot.{Spot}
use Rattle.php_ast.specs.declared.spot.Name.{Name}
use Rattle.php_ast.specs.declared.operator.Binary as operator
use Rattle.php_ast.specs.declared.operator.Binary.TheVariants.{Times, Plus, Minus, Coalesced}
use Rattle.php_ast.specs.declared.expression.Expr.{Expr}
use Rattle.php_ast.specs.declared.expression.Expr.TheVariants.{Variable, Group, Chain, Run, Binary, rolls-Variable, rolls-Group, rolls-Binary}
use Rattle.php_ast.specs.declared.expression.Expr.TheOpen.{Expr-F}
use Rattle.php_ast.specs.declared.expression.Expr.TheFolds.{fold-roll-Expr}
use Rattle.php_ast.specs.declared.expression.Suffix.TheVariants.{Append, Index}
use Rattle.php_ast.specs.declared.expression.Link.TheVariants.{Operator, Choice, ShortChoice}
use Rattle.php_ast.specs.Power.{is_left, binary_row}
use Rattle.php_build.specs.Flat.{Shape, shape, shape_step, apart, chain_shape, run_shape, is_flat}
use Rattle.php_build.proofs.Flats.{shape_chain, shape_run}

-- ---- the shapes of some nodes

shape_variable : (n : Name) → shape (Variable n) ≡ apart true
shape_variable n = ap shape (sym (rolls-Variable n)) ∙ fold-roll-Expr Shape shape_step (Expr-F.Variable n)

shape_group : (spot : Spot) (e : Expr) → shape (Group spot e) ≡ apart (is_flat e)
shape_group spot e = ap shape (sym (rolls-Group spot e)) ∙ fold-roll-Expr Shape shape_step (Expr-F.Group spot e)

shape_binary : (op : operator.Binary) (l r : Expr) → shape (Binary op l r) ≡ apart (not (is_left (binary_row op).grouping) && is_flat l && is_flat r)
shape_binary op l r = ap shape (sym (rolls-Binary op l r)) ∙ fold-roll-Expr Shape shape_step (Expr-F.Binary op l r)

-- ---- runs

-- `$a + $a - $a`
one_run : (n : Name) → is_flat (Run (Variable n) (Operator Plus (Variable n) ∷ Operator Minus (Variable n) ∷ [])) ≡ true
one_run n =
    ap (λ s. s.flat) (shape_run (Variable n) (Operator Plus (Variable n) ∷ Operator Minus (Variable n) ∷ []))
    ∙ ap (λ s. (run_shape s (Operator Plus s ∷ Operator Minus s ∷ [])).flat) (shape_variable n)

one_link : (n : Name) (op : operator.Binary) → shape (Run (Variable n) (Operator op (Variable n) ∷ [])) ≡ run_shape (apart true) (Operator op (apart true) ∷ [])
one_link n op = shape_run (Variable n) (Operator op (Variable n) ∷ []) ∙ ap (λ s. run_shape s (Operator op s ∷ [])) (shape_variable n)

-- a link behind a run of one link
two_runs : (n : Name) (a b : operator.Binary) → is_flat (Run (Run (Variable n) (Operator a (Variable n) ∷ [])) (Operator b (Variable n) ∷ [])) ≡ (run_shape (run_shape (apart true) (Operator a (apart true) ∷ [])) (Operator b (apart true) ∷ [])).flat
two_runs n a b =
    ap (λ s. s.flat) (shape_run (Run (Variable n) (Operator a (Variable n) ∷ [])) (Operator b (Variable n) ∷ []))
    ∙ ap (λ s. (run_shape s (Operator b (shape (Variable n)) ∷ [])).flat) (one_link n a)
    ∙ ap (λ s. (run_shape (run_shape (apart true) (Operator a (apart true) ∷ [])) (Operator b s ∷ [])).flat) (shape_variable n)

-- `$a + $a - $a` as a run behind a run of the same power
nested_run-unflat : (n : Name) → is_flat (Run (Run (Variable n) (Operator Plus (Variable n) ∷ [])) (Operator Minus (Variable n) ∷ [])) ≡ false
nested_run-unflat n = two_runs n Plus Minus

-- `$a * $a + $a`
product_in_sum : (n : Name) → is_flat (Run (Run (Variable n) (Operator Times (Variable n) ∷ [])) (Operator Plus (Variable n) ∷ [])) ≡ true
product_in_sum n = two_runs n Times Plus

two_powers-unflat : (n : Name) → is_flat (Run (Variable n) (Operator Plus (Variable n) ∷ Operator Times (Variable n) ∷ [])) ≡ false
two_powers-unflat n =
    ap (λ s. s.flat) (shape_run (Variable n) (Operator Plus (Variable n) ∷ Operator Times (Variable n) ∷ []))
    ∙ ap (λ s. (run_shape s (Operator Plus s ∷ Operator Times s ∷ [])).flat) (shape_variable n)

-- `$a ?: $a ? $a : $a`
choices : (n : Name) → is_flat (Run (Variable n) (ShortChoice (Variable n) ∷ Choice (Variable n) (Variable n) ∷ [])) ≡ true
choices n =
    ap (λ s. s.flat) (shape_run (Variable n) (ShortChoice (Variable n) ∷ Choice (Variable n) (Variable n) ∷ []))
    ∙ ap (λ s. (run_shape s (ShortChoice s ∷ Choice s s ∷ [])).flat) (shape_variable n)

no_link-unflat : (n : Name) → is_flat (Run (Variable n) []) ≡ false
no_link-unflat n = ap (λ s. s.flat) (shape_run (Variable n) [])

-- an operator that groups to the right
right_run-unflat : (n : Name) → is_flat (Run (Variable n) (Operator Coalesced (Variable n) ∷ [])) ≡ false
right_run-unflat n = ap (λ s. s.flat) (one_link n Coalesced)

pair : (n : Name) (op : operator.Binary) → is_flat (Binary op (Variable n) (Variable n)) ≡ (not (is_left (binary_row op).grouping) && true && true)
pair n op = ap (λ s. s.flat) (shape_binary op (Variable n) (Variable n)) ∙ ap (λ s. not (is_left (binary_row op).grouping) && s.flat && s.flat) (shape_variable n)

right_pair : (n : Name) → is_flat (Binary Coalesced (Variable n) (Variable n)) ≡ true
right_pair n = pair n Coalesced

left_pair-unflat : (n : Name) → is_flat (Binary Plus (Variable n) (Variable n)) ≡ false
left_pair-unflat n = pair n Plus

-- ---- chains

-- `$a[][]`
one_chain : (n : Name) → is_flat (Chain (Variable n) (Append ∷ Append ∷ [])) ≡ true
one_chain n =
    ap (λ s. s.flat) (shape_chain (Variable n) (Append ∷ Append ∷ []))
    ∙ ap (λ s. (chain_shape s (Append ∷ Append ∷ [])).flat) (shape_variable n)

nested_chain-unflat : (n : Name) → is_flat (Chain (Chain (Variable n) (Append ∷ [])) (Append ∷ [])) ≡ false
nested_chain-unflat n =
    ap (λ s. s.flat) (shape_chain (Chain (Variable n) (Append ∷ [])) (Append ∷ []))
    ∙ ap (λ s. (chain_shape s (Append ∷ [])).flat) (shape_chain (Variable n) (Append ∷ []))

no_suffix-unflat : (n : Name) → shape (Chain (Variable n) []) ≡ chain_shape (apart true) []
no_suffix-unflat n = shape_chain (Variable n) [] ∙ ap (λ s. chain_shape s []) (shape_variable n)

-- ---- parts

unflat_inside : (n : Name) (spot : Spot) → is_flat (Group spot (Chain (Variable n) [])) ≡ false
unflat_inside n spot = ap (λ s. s.flat) (shape_group spot (Chain (Variable n) [])) ∙ ap (λ s. s.flat) (no_suffix-unflat n)

unflat_index : (n : Name) → is_flat (Chain (Variable n) (Index (Chain (Variable n) []) ∷ [])) ≡ false
unflat_index n =
    ap (λ s. s.flat) (shape_chain (Variable n) (Index (Chain (Variable n) []) ∷ []))
    ∙ ap (λ s. (chain_shape s (Index (shape (Chain (Variable n) [])) ∷ [])).flat) (shape_variable n)
    ∙ ap (λ s. (chain_shape (apart true) (Index s ∷ [])).flat) (no_suffix-unflat n)
