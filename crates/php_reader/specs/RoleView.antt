-- From the roles of tokens in the program to those of the grammar.
use Rattle.std.specs.Prelude.{◌≡◌, ◌≢◌, ℕ, Option, Some, None, List}
use Rattle.php_ast.specs.expression.Tree.{Leaf, variable, int, string, name, magic, parentheses, emptiness, array, is_set, thin, colons}
use Rattle.php_grammar.specs.expression.Role.{Beginning, at_leaf, at_static, at_template, at_exit, at_new, at_yield, at_enclosed, at_listed, at_prefix, at_nothing, beginning, Draw, by_binary, by_instance_of, by_choice, by_assign, by_count, by_call, by_index, by_select, Continuation, draws, closes, neither, Mark, refers, spreads, ends_item, begins}
use Rattle.php_reader.specs.declared.role.LeafKind.{LeafKind}
use Rattle.php_reader.specs.declared.role.LeafKind.TheVariants as leaf
use Rattle.php_reader.specs.declared.role.Opening.{Opening}
use Rattle.php_reader.specs.declared.role.Opening.TheVariants as opening
use Rattle.php_reader.specs.declared.role.Start.{Start}
use Rattle.php_reader.specs.declared.role.Start.TheVariants as start
use Rattle.php_reader.specs.declared.role.Mark as rust_mark
use Rattle.php_reader.specs.declared.role.Mark.TheVariants as rust_mark_of
use Rattle.php_reader.specs.declared.role.Due.{Due}
use Rattle.php_reader.specs.declared.role.Infix.{Infix}
use Rattle.php_reader.specs.declared.role.Infix.TheVariants as operator
use Rattle.php_reader.specs.declared.role.Tail.{Tail}
use Rattle.php_reader.specs.declared.role.Tail.TheVariants as tail
use Rattle.php_reader.specs.declared.role.ClassKind.{ClassKind}
use Rattle.php_reader.specs.declared.role.ClassKind.TheVariants as class_kind
use Rattle.php_reader.specs.declared.role.Mold as rust_mold
use Rattle.php_reader.specs.declared.role.Mold.TheVariants as mold
use Rattle.php_ast.specs.expression.Tree.{Class, class_name, class_static, class_found, from}
use Rattle.php_reader.specs.Seen.{Mold, is_bytes, is_opened, is_over, is_other, NoOperand, head_beginning, rest, Shows, Starts, Marks}
use Rattle.php_token.specs.Token.{Token, token_at}
use Rattle.php_reader.specs.declared.role.Next.{Next}
use Rattle.php_reader.specs.declared.role.Next.TheVariants as next

-- of a token with this text
abbrev pub leaf_view : LeafKind → List ℕ → Leaf
leaf_view leaf.Variable text = variable text
leaf_view (leaf.Int value) text = int value
leaf_view leaf.Str text = string text
leaf_view leaf.Name text = name text
leaf_view (leaf.Magic constant) text = magic constant

abbrev pub opening_view : Opening → List ℕ → Beginning
opening_view (opening.Leaf kind) text = at_leaf (leaf_view kind text)
opening_view opening.Static text = at_static
opening_view opening.Quote text = at_template
opening_view opening.Exit text = at_exit
opening_view opening.New text = at_new
opening_view opening.Group text = at_enclosed parentheses
opening_view opening.Empty text = at_enclosed emptiness
opening_view (opening.Array form) text = at_listed (array form)
opening_view opening.IsSet text = at_listed is_set

abbrev pub start_view : Start → List ℕ → Beginning
start_view (start.Operand begun) text = opening_view begun text
start_view (start.Prefix op) text = at_prefix op
start_view start.Yield text = at_yield
start_view start.Nothing text = at_nothing

abbrev pub infix_view : Infix → Draw
infix_view (operator.Binary op) = by_binary op
infix_view operator.InstanceOf = by_instance_of
infix_view operator.Choice = by_choice

abbrev pub tail_view : Tail → Draw
tail_view tail.Call = by_call
tail_view tail.Index = by_index
tail_view tail.Property = by_select thin
tail_view tail.Member = by_select colons

abbrev pub next_view : Next → Continuation
next_view (next.Infix op) = draws (infix_view op)
next_view (next.Assign op) = draws (by_assign op)
next_view (next.Count count) = draws (by_count count)
next_view (next.Suffix first) = draws (tail_view first)
next_view (next.Closes closer) = closes closer
next_view next.Neither = neither

abbrev pub mark_view : rust_mark.Mark → Mark
mark_view rust_mark_of.Reference = refers
mark_view rust_mark_of.Spread = spreads
mark_view (rust_mark_of.Ends closer) = ends_item closer
mark_view rust_mark_of.Begins = begins

-- what the token at a place is where an expression or a mark is due
pub record IsDue (tokens : List Token) (at : ℕ) (due : Due) : Type 0 where
  pub starts : Starts tokens at (start_view due.start (token_at tokens at).text)
  pub marks : Marks tokens at (mark_view due.mark)

abbrev pub class_kind_view : Option ClassKind → List ℕ → Option (Class (Unit {0}))
class_kind_view None text = None
class_kind_view (Some class_kind.Name) text = Some (class_name tt text)
class_kind_view (Some class_kind.Static) text = Some (class_static tt)
class_kind_view (Some class_kind.Variable) text = Some (class_found (from tt text))

abbrev pub mold_view : rust_mold.Mold → List ℕ → Mold
mold_view mold.Bytes text = is_bytes text
mold_view mold.Opened text = is_opened
mold_view mold.Over text = is_over
mold_view mold.Other text = is_other

abbrev pub SeesOpening : List Token → ℕ → Option Opening → Type 0
SeesOpening tokens at None = NoOperand (head_beginning (rest tokens at))
SeesOpening tokens at (Some begun) = Shows beginning tokens at (opening_view begun (token_at tokens at).text)
