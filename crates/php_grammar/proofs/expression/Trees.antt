-- Facts on trees: their ends and their powers, and the symbols that they begin with.
use Rattle.std.proofs.Common.{◌≡◌, ◌≤◌, ◌<◌, ℕ, Bool, true, false, List, [], ◌∷◌, refl, ap, arith}
use Rattle.php_token.specs.declared.kind.Punct.TheVariants as mark
use Rattle.php_ast.specs.declared.operator.Prefix.{Prefix}
use Rattle.php_ast.specs.declared.operator.Prefix.TheVariants as prefix_op
use Rattle.php_ast.specs.declared.operator.ArrayForm.TheVariants as form
use Rattle.php_ast.specs.Symbol.{Symbol, punct}
use Rattle.php_ast.specs.expression.Tree.{Items, Enclosure, parentheses, emptiness, exiting, Listing, array, is_set}
use Rattle.php_ast.specs.expression.Tree.{leaf, template, enclosed, listed, exit, exit_empty, static_member, append, index, selected, computed, call, new, new_with, prefix, count, binary, instance_of, instance_of_static, choice, short_choice, assign, yield_nothing, yield_value, yield_pair}
use Rattle.php_ast.specs.expression.Spelling.{spell}
use Rattle.php_ast.specs.Power.{prefix_power}
use Rattle.php_ast.specs.expression.Proper.{free, top, power, ends, takes_arrow, ends_bare}
use Rattle.php_grammar.specs.declared.closer.Closer.{Closer}
use Rattle.php_grammar.specs.declared.closer.Closer.TheVariants as ender
use Rattle.php_grammar.specs.expression.Role.{Beginning, at_nothing, beginning, Continuation, draws, closes, neither, ends_yield, Mark, refers, spreads, ends_item, begins}
use Rattle.php_grammar.specs.expression.Machine.{Form}
use Rattle.php_grammar.proofs.expression.Roles.{closer_symbol, Says, beginning_prefix, beginning_leaf, MarkSays, TestSays}
use Rattle.php_grammar.proofs.expression.Fill.{prefix_bound, binary_bound, edge_bounds}

-- ---- ends and powers

prefix_some : (op : Prefix) → 0 < prefix_power op
prefix_some prefix_op.Clone = omega arith
prefix_some _ = omega arith

pub ends_positive : (e : Form) → 0 < ends e
ends_positive (prefix spot op e) = omega (arith, prefix_some op, ends_positive e)
ends_positive (binary op l r) = omega (arith, edge_bounds op, ends_positive r)
ends_positive (choice c a b) = omega (arith, ends_positive b)
ends_positive (short_choice c b) = omega (arith, ends_positive b)
ends_positive (assign how l r) = omega (arith, ends_positive r)
ends_positive (yield_value spot v) = omega (arith, ends_positive v)
ends_positive (yield_pair spot k v) = omega (arith, ends_positive v)
ends_positive _ = omega arith

-- A tree at whose end a `yield` stands alone is followed by no operator.
pub bare_ends : (e : Form) → ends_bare e ≡ true → ends e ≤ 1
bare_ends (prefix spot op e) h = omega (arith, bare_ends e h)
bare_ends (binary op l r) h = omega (arith, bare_ends r h)
bare_ends (choice c a b) h = omega (arith, bare_ends b h)
bare_ends (short_choice c b) h = omega (arith, bare_ends b h)
bare_ends (assign how l r) h = omega (arith, bare_ends r h)
bare_ends (yield_nothing spot) h = omega arith
bare_ends (yield_value spot v) h = omega (arith, bare_ends v h)
bare_ends (yield_pair spot k v) h = omega (arith, bare_ends v h)
bare_ends (leaf spot l) h = cc
bare_ends _ h = cc

-- where an operator may follow, the tree before it binds no looser than that operator
pub power_of_left : (e : Form) (n : ℕ) → n ≤ 40 → n < ends e → n ≤ power e
power_of_left (binary op l r) n small h = omega (arith, edge_bounds op)
power_of_left (instance_of l r) n small h = omega arith
power_of_left (instance_of_static l spot) n small h = omega arith
power_of_left (choice c a b) n small h = omega arith
power_of_left (short_choice c b) n small h = omega arith
power_of_left (leaf spot l) n small h = omega arith
power_of_left _ n small h = omega arith

-- what is open to an assignment
pub record IsOpen (e : Form) : Type 0 where
  pub power_is : power e ≡ top
  pub no_arrow : takes_arrow e ≡ false
  pub not_bare : ends_bare e ≡ false
  pub ends_is : 80 ≤ ends e
  pub more : 80 < ends e → 105 ≤ ends e
  pub most : 105 < ends e → ends e ≡ top

pub open_by_ends : (e : Form) → free < ends e → IsOpen e
open_by_ends (prefix spot op e) h = absurd (omega (arith, prefix_bound op))
open_by_ends (count e way) h = absurd (omega arith)
open_by_ends (binary op l r) h = absurd (omega (arith, edge_bounds op))
open_by_ends (instance_of l r) h = absurd (omega arith)
open_by_ends (instance_of_static l spot) h = absurd (omega arith)
open_by_ends (choice c a b) h = absurd (omega arith)
open_by_ends (short_choice c b) h = absurd (omega arith)
open_by_ends (assign how l r) h = absurd (omega arith)
open_by_ends (yield_nothing spot) h = absurd (omega arith)
open_by_ends (yield_value spot v) h = absurd (omega arith)
open_by_ends (yield_pair spot k v) h = absurd (omega arith)
open_by_ends (exit spot) h = record { power_is = refl; no_arrow = refl; not_bare = refl; ends_is = omega arith; more = λ g. omega arith; most = λ g. absurd (omega arith) }
open_by_ends (new spot class) h = record { power_is = refl; no_arrow = refl; not_bare = refl; ends_is = omega arith; more = λ g. absurd (omega arith); most = λ g. absurd (omega arith) }
open_by_ends (new_with spot class items) h = record { power_is = refl; no_arrow = refl; not_bare = refl; ends_is = omega arith; more = λ g. absurd (omega arith); most = λ g. absurd (omega arith) }
open_by_ends _ h = record { power_is = refl; no_arrow = refl; not_bare = refl; ends_is = omega arith; more = λ g. omega arith; most = λ g. refl }

pub operand_ends : (e : Form) → free < power e → free < ends e
operand_ends (prefix spot op e) h = absurd (omega arith)
operand_ends (count e way) h = absurd (omega arith)
operand_ends (binary op l r) h = absurd (omega (arith, binary_bound op))
operand_ends (instance_of l r) h = absurd (omega arith)
operand_ends (instance_of_static l spot) h = absurd (omega arith)
operand_ends (choice c a b) h = absurd (omega arith)
operand_ends (short_choice c b) h = absurd (omega arith)
operand_ends (assign how l r) h = absurd (omega arith)
operand_ends (yield_nothing spot) h = absurd (omega arith)
operand_ends (yield_value spot v) h = absurd (omega arith)
operand_ends (yield_pair spot k v) h = absurd (omega arith)
operand_ends _ h = omega arith

-- ---- first symbols

abbrev pub begins_some : Beginning → Bool
begins_some at_nothing = false
begins_some _ = true

-- The symbols are some, and the first one begins an expression.
abbrev pub Starts : List Symbol → Type 0
Starts [] = ⊥
Starts (t ∷ w) = begins_some (beginning t) ≡ true

enclosed_starts : (enclosure : Enclosure) (e : Form) (w : List Symbol) → Starts (spell (enclosed tt enclosure e) w)
enclosed_starts parentheses e w = refl
enclosed_starts emptiness e w = refl
enclosed_starts exiting e w = refl

listed_starts : (listing : Listing) (items : Items (Unit {0})) (w : List Symbol) → Starts (spell (listed tt listing items) w)
listed_starts (array form.Brackets) items w = refl
listed_starts (array form.Array) items w = refl
listed_starts (array form.List) items w = refl
listed_starts is_set items w = refl

pub starts : (e : Form) (w : List Symbol) → Starts (spell e w)
starts (leaf spot l) w = ap begins_some (beginning_leaf l)
starts (template spot pieces) w = refl
starts (enclosed spot enclosure e) w = enclosed_starts enclosure e w
starts (listed spot listing items) w = listed_starts listing items w
starts (exit spot) w = refl
starts (exit_empty spot) w = refl
starts (static_member spot member) w = refl
starts (append e) w = starts e _
starts (index e key) w = starts e _
starts (selected e arrow member) w = starts e _
starts (computed e key) w = starts e _
starts (call f items) w = starts f _
starts (new spot class) w = refl
starts (new_with spot class items) w = refl
starts (prefix spot op e) w = ap begins_some (beginning_prefix op)
starts (count e way) w = starts e _
starts (binary op l r) w = starts l _
starts (instance_of l r) w = starts l _
starts (instance_of_static l spot) w = starts l _
starts (choice c a b) w = starts c _
starts (short_choice c b) w = starts c _
starts (assign how l r) w = starts l _
starts (yield_nothing spot) w = refl
starts (yield_value spot v) w = refl
starts (yield_pair spot k v) w = refl

-- a symbol that begins an expression is none that begins nothing
pub test_false : (b : Bool) (t x : Symbol) → TestSays b t x → begins_some (beginning x) ≡ false → begins_some (beginning t) ≡ true → b ≡ false
test_false false t x says shut starting = refl
test_false true t x says shut starting = let e : begins_some (beginning t) ≡ begins_some (beginning x) = ap (λ u. begins_some (beginning u)) says in cc

closer_no_first : (c : Closer) → begins_some (beginning (closer_symbol c)) ≡ false
closer_no_first ender.Paren = refl
closer_no_first _ = refl

pub item_begins : (x : Mark) (t : Symbol) → MarkSays x t → begins_some (beginning t) ≡ true → x ≡ begins
item_begins refers t says starting = let e : begins_some (beginning t) ≡ begins_some (beginning (punct mark.Ampersand)) = ap (λ u. begins_some (beginning u)) says in cc
item_begins spreads t says starting = let e : begins_some (beginning t) ≡ begins_some (beginning (punct mark.Ellipsis)) = ap (λ u. begins_some (beginning u)) says in cc
item_begins (ends_item c) t says starting =
    let e : begins_some (beginning t) ≡ begins_some (beginning (closer_symbol c)) = ap (λ u. begins_some (beginning u)) says in
    let shut : begins_some (beginning (closer_symbol c)) ≡ false = closer_no_first c in cc
item_begins begins t says starting = refl

pub yield_begins : (x : Continuation) (t : Symbol) → Says x t → begins_some (beginning t) ≡ true → ends_yield x ≡ false
yield_begins (draws d) t says starting = refl
yield_begins (closes c) t says starting =
    let e : begins_some (beginning t) ≡ begins_some (beginning (closer_symbol c)) = ap (λ u. begins_some (beginning u)) says in
    let shut : begins_some (beginning (closer_symbol c)) ≡ false = closer_no_first c in cc
yield_begins neither t says starting = refl
