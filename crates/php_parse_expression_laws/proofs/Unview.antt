-- Back from the trees of the grammar to the flat expressions of the program.
use Rattle.std.proofs.Common.{ℕ, Bool, true, false, nat_eq, List, [], ◌∷◌, ◌++◌, Some, None}
use Rattle.php_ast.specs.declared.spot.Spot.{Spot}
use Rattle.php_ast.specs.declared.spot.Name as rust_name
use Rattle.php_ast.specs.declared.spot.Word.{Word}
use Rattle.php_ast.specs.declared.operator.Binary.{Binary}
use Rattle.php_ast.specs.declared.expression.Expr.{Expr}
use Rattle.php_ast.specs.declared.expression.Expr.TheOpen.{Expr-F}
use Rattle.php_ast.specs.declared.expression.Expr.TheViews.{roll-Expr}
use Rattle.php_ast.specs.declared.expression.Piece.{Piece}
use Rattle.php_ast.specs.declared.expression.Piece.TheVariants as piece
use Rattle.php_ast.specs.declared.expression.Item.{Item}
use Rattle.php_ast.specs.declared.expression.Item.TheVariants as item
use Rattle.php_ast.specs.declared.expression.Argument.{Argument}
use Rattle.php_ast.specs.declared.expression.Argument.TheVariants as argument
use Rattle.php_ast.specs.declared.expression.Suffix.{Suffix}
use Rattle.php_ast.specs.declared.expression.Suffix.TheVariants as suffix
use Rattle.php_ast.specs.declared.expression.Named as behind_arrow
use Rattle.php_ast.specs.declared.expression.Named.TheVariants as arrow
use Rattle.php_ast.specs.declared.expression.Member as behind_colons
use Rattle.php_ast.specs.declared.expression.Member.TheVariants as member
use Rattle.php_ast.specs.declared.expression.Class as behind_new
use Rattle.php_ast.specs.declared.expression.Class.TheVariants as class
use Rattle.php_ast.specs.declared.expression.ClassStep.{ClassStep}
use Rattle.php_ast.specs.declared.expression.ClassStep.TheVariants as class_step
use Rattle.php_ast.specs.declared.expression.Link.{Link}
use Rattle.php_ast.specs.declared.expression.Link.TheVariants as link
use Rattle.php_ast.specs.Power.{is_left, binary_row, choice_row}
use Rattle.php_ast.specs.expression.Tree.{Leaf, variable, int, string, name, magic, Enclosure, parentheses, emptiness, exiting, Listing, array, is_set, Arrow, thin, colons, Setting, by_value, by_reference, Member, named, reserved, held}
use Rattle.php_ast.specs.expression.Tree.{Tree, leaf, template, enclosed, listed, exit, exit_empty, static_member, append, index, selected, computed, call, new, new_with, prefix, count, binary, instance_of, instance_of_static, choice, short_choice, assign, yield_nothing, yield_value, yield_pair}
use Rattle.php_ast.specs.expression.Tree.{Items, none, and, skip, Lead, plain, reference, spread, keyed, keyed_reference, Pieces, no_piece, bytes, value, Class, class_name, class_static, class_found, Steps, from, step_property, step_index}
use Rattle.php_ast.specs.expression.View.{Note}
use Rattle.php_build.specs.Flat.{Top, chain, run, other}

-- ---- an expression that may go on

-- An expression of which is known whether a further suffix, or a link of which power, joins its list.
pub data Built : Type 0 where
  chained : Expr → List (Suffix Expr) → Built
  running : ℕ → Expr → List (Link Expr) → Built
  apart : Expr → Built

abbrev pub close : Built → Expr
close (chained e suffixes) = roll-Expr (Expr-F.Chain e suffixes)
close (running power e links) = roll-Expr (Expr-F.Run e links)
close (apart e) = e

abbrev pub top_of : Built → Top
top_of (chained e suffixes) = chain
top_of (running power e links) = run power
top_of (apart e) = other

-- one suffix more
abbrev pub suffixed : Built → Suffix Expr → Built
suffixed (chained e suffixes) x = chained e (suffixes ++ x ∷ [])
suffixed (running power e links) x = chained (close (running power e links)) (x ∷ [])
suffixed (apart e) x = chained e (x ∷ [])

-- a link more, behind a run of the same power or not
abbrev pub going_on : Bool → ℕ → Expr → List (Link Expr) → ℕ → Link Expr → Built
going_on true before e links power x = running before e (links ++ x ∷ [])
going_on false before e links power x = running power (close (running before e links)) (x ∷ [])

-- one link more, of a power
abbrev pub linked : ℕ → Built → Link Expr → Built
linked power (chained e suffixes) x = running power (close (chained e suffixes)) (x ∷ [])
linked power (running before e links) x = going_on (nat_eq before power) before e links power x
linked power (apart e) x = running power e (x ∷ [])

-- an operator, which may group to the left
abbrev pub joined : Bool → Binary → Built → Expr → Built
joined true op left right = linked (binary_row op).power left (link.Operator op right)
joined false op left right = apart (roll-Expr (Expr-F.Binary op (close left) right))

-- ---- places and names

abbrev pub spot_at : Note → Spot
spot_at n = record { place = n.place; line = n.line }

abbrev pub name_at : Note → List ℕ → rust_name.Name
name_at n text = record { spot = spot_at n; text = text }

abbrev pub word_at : Member Note → Word
word_at (named n text) = record { spot = spot_at n; text = text; keyword = None }
word_at (reserved n keyword) = record { spot = spot_at n; text = n.text; keyword = Some keyword }
word_at (held n text) = record { spot = spot_at n; text = text; keyword = None }

abbrev pub member_at : Member Note → behind_colons.Member
member_at (named n text) = member.Word (word_at (named n text))
member_at (reserved n keyword) = member.Word (word_at (reserved n keyword))
member_at (held n text) = member.Variable (name_at n text)

abbrev pub named_at : Member Note → behind_arrow.Named Expr
named_at (named n text) = arrow.Word (word_at (named n text))
named_at (reserved n keyword) = arrow.Word (word_at (reserved n keyword))
named_at (held n text) = arrow.Variable (name_at n text)

-- ---- parts

abbrev pub leaf_at : Note → Leaf → Expr
leaf_at n (variable text) = roll-Expr (Expr-F.Variable (name_at n text))
leaf_at n (int number) = roll-Expr (Expr-F.Int (spot_at n) number)
leaf_at n (string text) = roll-Expr (Expr-F.Str (spot_at n) text)
leaf_at n (name text) = roll-Expr (Expr-F.Name (name_at n text))
leaf_at n (magic constant) = roll-Expr (Expr-F.Magic (spot_at n) constant)

abbrev pub enclosed_at : Note → Enclosure → Expr → Expr
enclosed_at n parentheses e = roll-Expr (Expr-F.Group (spot_at n) e)
enclosed_at n emptiness e = roll-Expr (Expr-F.Empty (spot_at n) e)
enclosed_at n exiting e = roll-Expr (Expr-F.ExitWith (spot_at n) e)

abbrev pub listed_at : Note → Listing → List (Item Expr) → List Expr → Expr
listed_at n (array form) items values = roll-Expr (Expr-F.Array (spot_at n) form items)
listed_at n is_set items values = roll-Expr (Expr-F.IsSet (spot_at n) values)

abbrev pub selected_at : Built → Arrow → Member Note → Built
selected_at e thin m = suffixed e (suffix.Property (named_at m))
selected_at e colons m = suffixed e (suffix.Member (member_at m))

abbrev pub assigned : Setting → Expr → Expr → Expr
assigned (by_value op) l r = roll-Expr (Expr-F.Assign op l r)
assigned by_reference l r = roll-Expr (Expr-F.AssignReference l r)

-- ---- the whole

-- What no flat expression stands for, as `...` in an array, goes to some expression.

abbrev mutual
  pub unview : Tree Note → Built
  unview (leaf n l) = apart (leaf_at n l)
  unview (template n pieces) = apart (roll-Expr (Expr-F.Template (spot_at n) (unview_pieces pieces)))
  unview (enclosed n enclosure e) = apart (enclosed_at n enclosure (close (unview e)))
  unview (listed n listing items) = apart (listed_at n listing (unview_items items) (unview_values items))
  unview (exit n) = apart (roll-Expr (Expr-F.Exit (spot_at n)))
  unview (exit_empty n) = apart (roll-Expr (Expr-F.ExitEmpty (spot_at n)))
  unview (static_member n m) = apart (roll-Expr (Expr-F.StaticMember (spot_at n) (member_at m)))
  unview (append e) = suffixed (unview e) suffix.Append
  unview (index e key) = suffixed (unview e) (suffix.Index (close (unview key)))
  unview (selected e sign m) = selected_at (unview e) sign m
  unview (computed e key) = suffixed (unview e) (suffix.Property (arrow.Computed (close (unview key))))
  unview (call e items) = suffixed (unview e) (suffix.Call (unview_arguments items))
  unview (new n c) = apart (roll-Expr (Expr-F.New (spot_at n) (unview_class c)))
  unview (new_with n c items) = apart (roll-Expr (Expr-F.NewWith (spot_at n) (unview_class c) (unview_arguments items)))
  unview (prefix n op e) = apart (roll-Expr (Expr-F.Prefix (spot_at n) op (close (unview e))))
  unview (count e way) = apart (roll-Expr (Expr-F.Count (close (unview e)) way))
  unview (binary op l r) = joined (is_left (binary_row op).grouping) op (unview l) (close (unview r))
  unview (instance_of l r) = apart (roll-Expr (Expr-F.InstanceOf (close (unview l)) (close (unview r))))
  unview (instance_of_static l n) = apart (roll-Expr (Expr-F.InstanceOfStatic (close (unview l)) (spot_at n)))
  unview (choice e a b) = linked choice_row.power (unview e) (link.Choice (close (unview a)) (close (unview b)))
  unview (short_choice e b) = linked choice_row.power (unview e) (link.ShortChoice (close (unview b)))
  unview (assign setting l r) = apart (assigned setting (close (unview l)) (close (unview r)))
  unview (yield_nothing n) = apart (roll-Expr (Expr-F.YieldNothing (spot_at n)))
  unview (yield_value n v) = apart (roll-Expr (Expr-F.Yield (spot_at n) (close (unview v))))
  unview (yield_pair n k v) = apart (roll-Expr (Expr-F.YieldPair (spot_at n) (close (unview k)) (close (unview v))))

  pub unview_items : Items Note → List (Item Expr)
  unview_items none = []
  unview_items (and items lead e) = unview_items items ++ unview_item lead (close (unview e)) ∷ []
  unview_items (skip items) = unview_items items ++ item.Missing ∷ []

  unview_item : Lead Note → Expr → Item Expr
  unview_item plain e = item.Value e
  unview_item reference e = item.Reference e
  unview_item spread e = item.Value e
  unview_item (keyed k) e = item.Keyed (close (unview k)) e
  unview_item (keyed_reference k) e = item.KeyedReference (close (unview k)) e

  pub unview_arguments : Items Note → List (Argument Expr)
  unview_arguments none = []
  unview_arguments (and items lead e) = unview_arguments items ++ unview_argument lead (close (unview e)) ∷ []
  unview_arguments (skip items) = unview_arguments items

  unview_argument : Lead Note → Expr → Argument Expr
  unview_argument plain e = argument.Value e
  unview_argument reference e = argument.Value e
  unview_argument spread e = argument.Spread e
  unview_argument (keyed k) e = argument.Value e
  unview_argument (keyed_reference k) e = argument.Value e

  pub unview_values : Items Note → List Expr
  unview_values none = []
  unview_values (and items lead e) = unview_values items ++ close (unview e) ∷ []
  unview_values (skip items) = unview_values items

  pub unview_pieces : Pieces Note → List (Piece Expr)
  unview_pieces no_piece = []
  unview_pieces (bytes pieces text) = unview_pieces pieces ++ piece.Bytes text ∷ []
  unview_pieces (value pieces e) = unview_pieces pieces ++ piece.Part (close (unview e)) ∷ []

  pub unview_class : Class Note → behind_new.Class Expr
  unview_class (class_name n text) = class.Name (name_at n text)
  unview_class (class_static n) = class.Static (spot_at n)
  unview_class (class_found steps) = class.Variable (start steps) (unview_steps steps)

  pub start : Steps Note → rust_name.Name
  start (from n text) = name_at n text
  start (step_property steps m) = start steps
  start (step_index steps e) = start steps

  pub unview_steps : Steps Note → List (ClassStep Expr)
  unview_steps (from n text) = []
  unview_steps (step_property steps m) = unview_steps steps ++ class_step.Property (word_at m) ∷ []
  unview_steps (step_index steps e) = unview_steps steps ++ class_step.Index (close (unview e)) ∷ []
