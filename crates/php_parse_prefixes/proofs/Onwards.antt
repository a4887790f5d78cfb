-- Where no change goes on with an operand.
use Rattle.std.proofs.Common.{◌≡◌, ◌≢◌, ◌≤◌, ◌<◌, ◌⊎◌, inl, inr, ℕ, List, refl, arith}
use Rattle.php_token.specs.Token.{Token}
use Rattle.php_ast.specs.expression.Proper.{free, operand_level}
use Rattle.php_ast.specs.declared.operator.Assign.{Assign}
use Rattle.php_ast.specs.declared.operator.Count.{Count}
use Rattle.php_grammar.specs.expression.Role.{strength_of}
use Rattle.php_reader.specs.declared.role.Next.{Next}
use Rattle.php_reader.specs.declared.role.Next.TheVariants as next
use Rattle.php_reader.specs.RoleView.{next_view}
use Rattle.php_reader.specs.Seen.{Follows, rest}
use Rattle.php_parse_operands.specs.Walk.{Rests, head_strength}
use Rattle.php_parse_operands.proofs.Heads.{infix_low, tail_high, strength_is}

-- by the number that the first symbol draws
pub lowered : (edge k least : ℕ) (n : ℕ) → (k < n) ⊎ (edge ≤ k) → (k < least) ⊎ (n ≤ k) → (k < least) ⊎ (edge ≤ k)
lowered edge k least n (inl h) (inl g) = inl g
lowered edge k least n (inl h) (inr g) = absurd (omega arith)
lowered edge k least n (inr h) g = inr h

unchanged_by : (n : Next) (k : ℕ) → k ≡ strength_of (next_view n) → ((op : Assign) → n ≢ next.Assign op) → ((count : Count) → n ≢ next.Count count) → (k < free) ⊎ (operand_level ≤ k)
unchanged_by (next.Infix op) k is a b = inl (omega (arith, infix_low op))
unchanged_by (next.Assign op) k is a b = absurd (a op refl)
unchanged_by (next.Count count) k is a b = absurd (b count refl)
unchanged_by (next.Suffix t) k is a b = inr (omega (arith, tail_high t))
unchanged_by (next.Closes c) k is a b = inl (omega arith)
unchanged_by next.Neither k is a b = inl (omega arith)

-- no assignment and no counting follows
pub unchanged : (tokens : List Token) (at : ℕ) (n : Next) → Follows tokens at (next_view n) → ((op : Assign) → n ≢ next.Assign op) → ((count : Count) → n ≢ next.Count count)
    → (edge : ℕ) → Rests operand_level edge (rest tokens at) → Rests free edge (rest tokens at)
unchanged tokens at n h a b edge rests =
    lowered edge (head_strength (rest tokens at)) free operand_level rests (unchanged_by n (head_strength (rest tokens at)) (strength_is tokens at n h) a b)
