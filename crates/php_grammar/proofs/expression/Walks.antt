-- The walk that all machines share is, for expressions, the one of which the laws speak.
use Rattle.std.proofs.Common.{◌≡◌, ℕ, Option, Some, None, List, [], ◌∷◌, refl, ap}
use Rattle.php_ast.specs.Symbol.{Symbol}
use Rattle.php_grammar.specs.expression.Machine.{State, advance}
use Rattle.php_grammar.specs.expression.Depth.{depth_at, noting, depths_read}
use Rattle.php_grammar.specs.TooDeep.{taken, depths_taken}

one_taken : (o : Option State) (n : ℕ) (f g : State → List ℕ) → ((m : State) → f m ≡ g m) → taken o n f ≡ noting o n g
one_taken None n f g h = refl
one_taken (Some m) n f g h = ap (λ ns. n ∷ ns) (h m)

pub walks_agree : (m : State) (w : List Symbol) → depths_taken advance depth_at m w ≡ depths_read m w
walks_agree m [] = refl
walks_agree m (t ∷ w) =
    one_taken (advance m t) (depth_at m t) (λ n. depths_taken advance depth_at n w) (λ n. depths_read n w) (λ n. walks_agree n w)
