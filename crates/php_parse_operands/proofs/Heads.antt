-- What the first symbol behind an expression draws.
use Rattle.std.proofs.Common.{◌≡◌, ◌≢◌, ◌≤◌, ◌<◌, inl, ℕ, List, refl, ◌∙◌, ap, arith}
use Rattle.php_token.specs.Token.{Token}
use Rattle.php_ast.specs.expression.Proper.{free, operand_level, select_strength}
use Rattle.php_grammar.specs.expression.Role.{Continuation, draws, closes, neither, continuation, strength_of, draw_strength}
use Rattle.php_grammar.specs.expression.Laws.{head_continuation}
use Rattle.php_grammar.proofs.expression.Fill.{binary_bound}
use Rattle.php_reader.specs.declared.role.Next.{Next}
use Rattle.php_reader.specs.declared.role.Next.TheVariants as next
use Rattle.php_reader.specs.declared.role.Infix.{Infix}
use Rattle.php_reader.specs.declared.role.Infix.TheVariants as operator
use Rattle.php_reader.specs.declared.role.Tail.{Tail}
use Rattle.php_reader.specs.declared.role.Tail.TheVariants as tail
use Rattle.php_reader.specs.RoleView.{next_view, infix_view, tail_view}
use Rattle.php_reader.specs.Seen.{Follows, Shows, rest}
use Rattle.php_parse_operands.specs.Walk.{Rests, head_strength}

pub shows_head : (tokens : List Token) (at : ℕ) (x : Continuation) → Shows continuation tokens at x → head_continuation (rest tokens at) ≡ x
shows_head tokens at x h = ap head_continuation h.stands.is ∙ h.role_is

pub follows_head : (tokens : List Token) (at : ℕ) (x : Continuation) → Follows tokens at x → head_continuation (rest tokens at) ≡ x
follows_head tokens at neither h = h
follows_head tokens at (draws d) h = shows_head tokens at (draws d) h
follows_head tokens at (closes c) h = shows_head tokens at (closes c) h

pub infix_low : (op : Infix) → draw_strength (infix_view op) < free
infix_low (operator.Binary op) = omega (arith, binary_bound op)
infix_low operator.InstanceOf = omega arith
infix_low operator.Choice = omega arith

pub tail_high : (t : Tail) → select_strength ≤ draw_strength (tail_view t)
tail_high tail.Call = omega arith
tail_high _ = omega arith

pub strength_is : (tokens : List Token) (at : ℕ) (n : Next) → Follows tokens at (next_view n) → head_strength (rest tokens at) ≡ strength_of (next_view n)
strength_is tokens at n h = ap strength_of (follows_head tokens at (next_view n) h)

-- no suffix follows
no_suffix_by : (n : Next) (k : ℕ) → k ≡ strength_of (next_view n) → ((t : Tail) → n ≢ next.Suffix t) → k < operand_level
no_suffix_by (next.Infix op) k is a = omega (arith, infix_low op)
no_suffix_by (next.Assign op) k is a = omega arith
no_suffix_by (next.Count count) k is a = omega arith
no_suffix_by (next.Suffix t) k is a = absurd (a t refl)
no_suffix_by (next.Closes c) k is a = omega arith
no_suffix_by next.Neither k is a = omega arith

pub no_suffix : (tokens : List Token) (at : ℕ) (n : Next) (edge : ℕ) → Follows tokens at (next_view n) → ((t : Tail) → n ≢ next.Suffix t) → Rests operand_level edge (rest tokens at)
no_suffix tokens at n edge h a = inl (no_suffix_by n (head_strength (rest tokens at)) (strength_is tokens at n h) a)
