-- Which trees of expressions are proper: each operator has the operands that its power allows, and
-- each form stands only where it may.
use Rattle.std.specs.Prelude.{◌≡◌, ◌≤◌, ◌<◌, ℕ, suc, min, Bool, true, false}
use Rattle.php_token.specs.declared.kind.Keyword.{Keyword}
use Rattle.php_token.specs.declared.kind.Keyword.TheVariants as word
use Rattle.php_ast.specs.expression.Tree.{Listing, array, is_set, Member, named, reserved, held}
use Rattle.php_ast.specs.expression.Tree.{Tree, leaf, template, enclosed, listed, exit, exit_empty, static_member, append, index, selected, computed, call, new, new_with, prefix, count, binary, instance_of, instance_of_static, choice, short_choice, assign, yield_nothing, yield_value, yield_pair}
use Rattle.php_ast.specs.expression.Tree.{Items, none, and, skip, Lead, plain, reference, spread, keyed, keyed_reference, Pieces, no_piece, bytes, value, Class, class_name, class_static, class_found, Steps, from, step_property, step_index}
use Rattle.php_ast.specs.declared.power.Grouping.{Grouping}
use Rattle.php_ast.specs.declared.power.Grouping.TheVariants.{ToLeft, ToRight, Ungrouped}
use Rattle.php_ast.specs.declared.power.Row.{Row}
use Rattle.php_ast.specs.Power.{binary_row, choice_row, instance_of_row, assign_row, prefix_power, yield_power}

-- ---- numbers above all powers

-- An expression other than an operand that may stand wherever an operand may: every operator binds less.
abbrev pub free : ℕ
free = 50

-- An operand. Its first part may be drawn out by nothing.
abbrev pub top : ℕ
top = 200

-- behind `instanceof`, where only an operand may stand
abbrev pub operand_level : ℕ
operand_level = 90

-- What `[`, `->` and `::` need of the operand before them, and what `(` needs. They stand in the order in which operands
-- are open to them.
abbrev pub select_strength : ℕ
select_strength = 100

abbrev pub call_strength : ℕ
call_strength = 110

-- How much a form without operators at its end is open to the right. Parentheses directly behind `exit` are
-- its own and no arguments, a `new` takes no suffix, and the form with `++` or `--` behind it takes
-- neither a suffix nor an assignment.
abbrev pub open_exit : ℕ
open_exit = 105

abbrev pub open_new : ℕ
open_new = 80

abbrev pub open_count : ℕ
open_count = free

-- Behind a `yield` alone no operator stands.
abbrev pub open_yield : ℕ
open_yield = 1

-- ---- powers

-- the least power of the right side of an operator
abbrev pub right_of : Grouping → ℕ → ℕ
right_of ToRight power = power
right_of ToLeft power = suc power
right_of Ungrouped power = suc power

abbrev pub right : Row → ℕ
right row = right_of row.grouping row.power

-- An operator may follow only if its power is less than this: an equal one may only in a run.
abbrev pub edge_of : Grouping → ℕ → ℕ
edge_of ToLeft power = suc power
edge_of ToRight power = power
edge_of Ungrouped power = power

abbrev pub edge : Row → ℕ
edge row = edge_of row.grouping row.power

-- the power of the outermost operator
abbrev pub power : {S : Type 0} → Tree S → ℕ
power (binary op l r) = (binary_row op).power
power (instance_of l r) = instance_of_row.power
power (instance_of_static l spot) = instance_of_row.power
power (choice c a b) = choice_row.power
power (short_choice c b) = choice_row.power
power (prefix spot op e) = free
power (count e way) = free
power (assign setting l r) = free
power (yield_nothing spot) = free
power (yield_value spot v) = free
power (yield_pair spot k v) = free
power _ = top

-- What follows must have a power below this, so that it draws no operator out of the end of the tree.
abbrev pub ends : {S : Type 0} → Tree S → ℕ
ends (prefix spot op e) = min (prefix_power op) (ends e)
ends (binary op l r) = min (edge (binary_row op)) (ends r)
ends (instance_of l r) = edge instance_of_row
ends (instance_of_static l spot) = edge instance_of_row
ends (choice c a b) = min (edge choice_row) (ends b)
ends (short_choice c b) = min (edge choice_row) (ends b)
ends (assign setting l r) = min (edge assign_row) (ends r)
ends (yield_nothing spot) = open_yield
ends (yield_value spot v) = min yield_power (ends v)
ends (yield_pair spot k v) = min yield_power (ends v)
ends (count e way) = open_count
ends (new spot class) = open_new
ends (new_with spot class items) = open_new
ends (exit spot) = open_exit
ends _ = top

-- ---- what stands at the end of a tree

-- a `yield` that can still take a `=>`
abbrev pub takes_arrow : {S : Type 0} → Tree S → Bool
takes_arrow (prefix spot op e) = takes_arrow e
takes_arrow (binary op l r) = takes_arrow r
takes_arrow (choice c a b) = takes_arrow b
takes_arrow (short_choice c b) = takes_arrow b
takes_arrow (assign setting l r) = takes_arrow r
takes_arrow (yield_value spot v) = true
takes_arrow (yield_pair spot k v) = takes_arrow v
takes_arrow _ = false

-- a `yield` without operand, behind which `;`, `)`, `,` or `]` must stand
abbrev pub ends_bare : {S : Type 0} → Tree S → Bool
ends_bare (prefix spot op e) = ends_bare e
ends_bare (binary op l r) = ends_bare r
ends_bare (choice c a b) = ends_bare b
ends_bare (short_choice c b) = ends_bare b
ends_bare (assign setting l r) = ends_bare r
ends_bare (yield_nothing spot) = true
ends_bare (yield_value spot v) = ends_bare v
ends_bare (yield_pair spot k v) = ends_bare v
ends_bare _ = false

-- ---- kinds of trees

-- an operand: what an assignment and `++` may change, and what may stand behind `instanceof`
abbrev pub IsOperand : {S : Type 0} → Tree S → Type 0
IsOperand e = free < power e

-- an operand that may have suffixes, and one that may have arguments
abbrev pub HasSuffix : {S : Type 0} → Tree S → Type 0
HasSuffix e = open_new < ends e

abbrev pub IsCallable : {S : Type 0} → Tree S → Type 0
IsCallable e = open_exit < ends e

abbrev pub is_call : {S : Type 0} → Tree S → Bool
is_call (call f items) = true
is_call _ = false

-- ---- names of members

-- Every keyword may name a member. `yield from` is none of them: it is a token of its own.
abbrev pub may_name : Keyword → Bool
may_name word.YieldFrom = false
may_name _ = true

abbrev pub IsWord : {S : Type 0} → Member S → Type 0
IsWord (named spot text) = Unit {0}
IsWord (reserved spot k) = may_name k ≡ true
IsWord (held spot text) = ⊥

-- a word or a variable
abbrev pub IsMemberName : {S : Type 0} → Member S → Type 0
IsMemberName (held spot text) = Unit {0}
IsMemberName m = IsWord m

-- ---- lists

-- arguments: values and spread values, none missing
abbrev pub AreArguments : {S : Type 0} → Items S → Type 0
AreArguments none = Unit {0}
AreArguments (and items plain e) = AreArguments items
AreArguments (and items spread e) = AreArguments items
AreArguments (and items _ e) = ⊥
AreArguments (skip items) = ⊥

-- items of an array: all but spread ones
abbrev pub AreArrayItems : {S : Type 0} → Items S → Type 0
AreArrayItems none = Unit {0}
AreArrayItems (and items spread e) = ⊥
AreArrayItems (and items _ e) = AreArrayItems items
AreArrayItems (skip items) = AreArrayItems items

-- a missing item that stands alone is no item
abbrev pub is_alone_missing : {S : Type 0} → Items S → Bool
is_alone_missing (skip none) = true
is_alone_missing _ = false

-- values alone
abbrev pub AreValues : {S : Type 0} → Items S → Type 0
AreValues none = Unit {0}
AreValues (and items plain e) = AreValues items
AreValues (and items _ e) = ⊥
AreValues (skip items) = ⊥

abbrev pub is_none : {S : Type 0} → Items S → Bool
is_none none = true
is_none _ = false

abbrev pub FitsListing : {S : Type 0} → Listing → Items S → Type 0
FitsListing (array form) items = AreArrayItems items × (is_alone_missing items ≡ false)
FitsListing is_set items = AreValues items × (is_none items ≡ false)

-- ---- the rules of powers

-- An operator with a left side: no operator at its end is drawn out.
abbrev pub FitsLeft : {S : Type 0} → Row → Tree S → Type 0
FitsLeft row l = row.power < ends l

abbrev pub FitsRight : {S : Type 0} → Row → Tree S → Type 0
FitsRight row r = right row ≤ power r

-- a key before `=>`
abbrev pub IsKey : {S : Type 0} → Tree S → Type 0
IsKey k = (takes_arrow k ≡ false) × (ends_bare k ≡ false)

abbrev mutual
  pub Proper : {S : Type 0} → Tree S → Type 0
  Proper (leaf spot l) = Unit {0}
  Proper (template spot pieces) = AreProperPieces pieces
  Proper (enclosed spot enclosure e) = Proper e
  Proper (listed spot listing items) = FitsListing listing items × AreProperItems items
  Proper (exit spot) = Unit {0}
  Proper (exit_empty spot) = Unit {0}
  Proper (static_member spot member) = IsMemberName member
  Proper (append e) = HasSuffix e × Proper e
  Proper (index e key) = HasSuffix e × Proper e × Proper key
  Proper (selected e arrow member) = HasSuffix e × Proper e × IsMemberName member
  Proper (computed e key) = HasSuffix e × Proper e × (ends_bare key ≡ false) × Proper key
  Proper (call f items) = IsCallable f × Proper f × AreArguments items × AreProperItems items
  Proper (new spot class) = IsProperClass class
  Proper (new_with spot class items) = IsProperClass class × AreArguments items × AreProperItems items
  Proper (prefix spot op e) = (prefix_power op < power e) × Proper e
  Proper (count e way) = IsOperand e × Proper e
  Proper (binary op l r) = FitsLeft (binary_row op) l × FitsRight (binary_row op) r × Proper l × Proper r
  Proper (instance_of l r) = FitsLeft instance_of_row l × IsOperand r × (is_call r ≡ false) × Proper l × Proper r
  Proper (instance_of_static l spot) = FitsLeft instance_of_row l × Proper l
  Proper (choice c a b) =
      FitsLeft choice_row c × (ends_bare a ≡ false) × FitsRight choice_row b × Proper c × Proper a × Proper b
  Proper (short_choice c b) = FitsLeft choice_row c × FitsRight choice_row b × Proper c × Proper b
  Proper (assign setting l r) = IsOperand l × FitsRight assign_row r × Proper l × Proper r
  Proper (yield_nothing spot) = Unit {0}
  Proper (yield_value spot v) = (yield_power < power v) × Proper v
  Proper (yield_pair spot k v) = (yield_power < power k) × IsKey k × (yield_power < power v) × Proper k × Proper v

  pub AreProperItems : {S : Type 0} → Items S → Type 0
  AreProperItems none = Unit {0}
  AreProperItems (and items lead e) = AreProperItems items × IsProperLead lead × Proper e
  AreProperItems (skip items) = AreProperItems items

  pub IsProperLead : {S : Type 0} → Lead S → Type 0
  IsProperLead plain = Unit {0}
  IsProperLead reference = Unit {0}
  IsProperLead spread = Unit {0}
  IsProperLead (keyed k) = IsKey k × Proper k
  IsProperLead (keyed_reference k) = IsKey k × Proper k

  pub AreProperPieces : {S : Type 0} → Pieces S → Type 0
  AreProperPieces no_piece = Unit {0}
  AreProperPieces (bytes pieces text) = AreProperPieces pieces
  AreProperPieces (value pieces e) = AreProperPieces pieces × (ends_bare e ≡ false) × Proper e

  pub IsProperClass : {S : Type 0} → Class S → Type 0
  IsProperClass (class_name spot text) = Unit {0}
  IsProperClass (class_static spot) = Unit {0}
  IsProperClass (class_found steps) = AreProperSteps steps

  pub AreProperSteps : {S : Type 0} → Steps S → Type 0
  AreProperSteps (from spot text) = Unit {0}
  AreProperSteps (step_property steps member) = AreProperSteps steps × IsWord member
  AreProperSteps (step_index steps e) = AreProperSteps steps × Proper e
