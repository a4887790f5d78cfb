-- Where no operator goes on, and what begins an expression.
use Rattle.std.proofs.Common.{◌≡◌, ◌≢◌, ◌≤◌, ◌<◌, ◌⊎◌, inl, inr, ℕ, List, refl, sym, ◌∙◌, arith}
use Rattle.php_token.specs.Token.{Token}
use Rattle.php_ast.specs.expression.Proper.{free}
use Rattle.php_grammar.specs.expression.Role.{strength_of}
use Rattle.php_reader.specs.declared.role.Next.{Next}
use Rattle.php_reader.specs.declared.role.Next.TheVariants as next
use Rattle.php_reader.specs.declared.role.Infix.{Infix}
use Rattle.php_reader.specs.RoleView.{next_view}
use Rattle.php_ast.specs.Symbol.{Symbol}
use Rattle.php_grammar.specs.expression.Role.{Beginning, at_leaf, at_static, at_template, at_exit, at_new, at_yield, at_enclosed, at_listed, at_prefix, at_nothing, beginning}
use Rattle.php_reader.specs.declared.role.Opening.{Opening}
use Rattle.php_reader.specs.declared.role.Opening.TheVariants as opening
use Rattle.php_reader.specs.declared.role.Start.{Start}
use Rattle.php_reader.specs.declared.role.Start.TheVariants as start
use Rattle.php_reader.specs.RoleView.{opening_view, start_view}
use Rattle.php_reader.specs.Seen.{Follows, Shows, Stands, Starts, rest}
use Rattle.php_parse_operands.specs.Walk.{Rests, head_strength}
use Rattle.php_parse_operands.proofs.Heads.{tail_high, strength_is}
use Rattle.php_parse_prefixes.proofs.Onwards.{lowered}

-- no operator goes on
no_operator_by : (n : Next) (k least : ℕ) → 1 ≤ least → k ≡ strength_of (next_view n) → ((op : Infix) → n ≢ next.Infix op) → (k < least) ⊎ (free ≤ k)
no_operator_by (next.Infix op) k least some is a = absurd (a op refl)
no_operator_by (next.Assign op) k least some is a = inr (omega arith)
no_operator_by (next.Count count) k least some is a = inr (omega arith)
no_operator_by (next.Suffix t) k least some is a = inr (omega (arith, tail_high t))
no_operator_by (next.Closes c) k least some is a = inl (omega arith)
no_operator_by next.Neither k least some is a = inl (omega arith)

pub no_operator : (tokens : List Token) (at : ℕ) (n : Next) (least edge : ℕ) → 1 ≤ least → Follows tokens at (next_view n) → ((op : Infix) → n ≢ next.Infix op) → Rests free edge (rest tokens at) → Rests least edge (rest tokens at)
no_operator tokens at n least edge some h a rests =
    lowered edge (head_strength (rest tokens at)) least free rests (no_operator_by n (head_strength (rest tokens at)) least some (strength_is tokens at n h) a)

-- ---- what begins an expression

pub record Begun (tokens : List Token) (at : ℕ) : Type 0 where
  pub token : Symbol
  pub stands : Stands tokens at token
  pub begins : beginning token ≢ at_nothing

begun_of : (tokens : List Token) (at : ℕ) (x : Beginning) → x ≢ at_nothing → Shows beginning tokens at x → Begun tokens at
begun_of tokens at x h g = record { token = g.token; stands = g.stands; begins = λ e. h (sym g.role_is ∙ e) }

pub begun : (tokens : List Token) (at : ℕ) (x : Beginning) → x ≢ at_nothing → Starts tokens at x → Begun tokens at
begun tokens at at_nothing h g = absurd (h refl)
begun tokens at (at_leaf l) h g = begun_of tokens at (at_leaf l) h g
begun tokens at at_static h g = begun_of tokens at at_static h g
begun tokens at at_template h g = begun_of tokens at at_template h g
begun tokens at at_exit h g = begun_of tokens at at_exit h g
begun tokens at at_new h g = begun_of tokens at at_new h g
begun tokens at at_yield h g = begun_of tokens at at_yield h g
begun tokens at (at_enclosed e) h g = begun_of tokens at (at_enclosed e) h g
begun tokens at (at_listed l) h g = begun_of tokens at (at_listed l) h g
begun tokens at (at_prefix op) h g = begun_of tokens at (at_prefix op) h g

opening_some : (b : Opening) (text : List ℕ) → opening_view b text ≢ at_nothing
opening_some (opening.Leaf kind) text h = cc
opening_some opening.Static text h = cc
opening_some opening.Quote text h = cc
opening_some opening.Exit text h = cc
opening_some opening.New text h = cc
opening_some opening.Group text h = cc
opening_some opening.Empty text h = cc
opening_some (opening.Array form) text h = cc
opening_some opening.IsSet text h = cc

pub start_some : (s : Start) (text : List ℕ) → s ≢ start.Nothing → start_view s text ≢ at_nothing
start_some (start.Operand b) text h = opening_some b text
start_some (start.Prefix op) text h = λ e. cc
start_some start.Yield text h = λ e. cc
start_some start.Nothing text h = absurd (h refl)
