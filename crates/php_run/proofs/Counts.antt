-- Counting what a script declares, item by item.
use Rattle.std.proofs.Common.{◌≡◌, ℕ, ◌+◌, ◌<◌, ◌≤◌, List, [], ◌∷◌, ◌++◌, codes, decimal, map, drop, length, get_or, Some, None, refl, sym, ◌∙◌, ap, subst, arith, append_assoc}
use Rattle.std.specs.Fmt.{digits}
use Rattle.std.proofs.lemmas.List.{at_drop_more, at_drop_all}
use Rattle.php_ast.specs.declared.script.ScriptItem.{ScriptItem}
use Rattle.php_ast.specs.expression.View.{Note}
use Rattle.php_ast.specs.statement.Tree.{Statement}
use Rattle.php_ast.specs.declaration.Tree.{Item, of_statement, of_function, of_class, of_interface, of_trait, Function, Class, Interface, Trait}
use Rattle.php_ast.specs.declaration.View.{item_view}
use Rattle.php_run.specs.Answer.{counted, not_yet}
use Rattle.php_run.specs.Checked.{functions, classes, first_class, checked_by}
use Rattle.php_run.specs.Counting.{HasNoClass, HasClassOn}
use Rattle.php_run.specs.Texts.{counted_text}

-- What is left of the items has the first class of all, and with the functions so far all functions.
pub record GoesOn (all rest : List (Item Note)) (so_far : ℕ) : Type 0 where
  pub first : first_class rest ≡ first_class all
  pub counted_on : so_far + functions rest ≡ functions all
  pub classes_left : classes rest ≡ classes all

pub begins : (all : List (Item Note)) → GoesOn all all 0
begins all = record { first = refl; counted_on = omega arith; classes_left = refl }

pub past_statement : (all rest : List (Item Note)) (s : Statement Note) (n : ℕ) → GoesOn all (of_statement s ∷ rest) n → GoesOn all rest n
past_statement all rest s n g = record { first = g.first; counted_on = omega (arith, g.counted_on); classes_left = omega (arith, g.classes_left) }

pub past_function : (all rest : List (Item Note)) (f : Function Note) (n : ℕ) → GoesOn all (of_function f ∷ rest) n → GoesOn all rest (n + 1)
past_function all rest f n g = record { first = g.first; counted_on = omega (arith, g.counted_on); classes_left = omega (arith, g.classes_left) }

pub at_class : (all rest : List (Item Note)) (c : Class Note) (n : ℕ) → GoesOn all (of_class c ∷ rest) n → HasClassOn all c.note.line
at_class all rest c n g = record { at = c.note; first = sym g.first; on_line = refl }

pub at_interface : (all rest : List (Item Note)) (i : Interface Note) (n : ℕ) → GoesOn all (of_interface i ∷ rest) n → HasClassOn all i.note.line
at_interface all rest i n g = record { at = i.note; first = sym g.first; on_line = refl }

pub at_trait : (all rest : List (Item Note)) (t : Trait Note) (n : ℕ) → GoesOn all (of_trait t ∷ rest) n → HasClassOn all t.note.line
at_trait all rest t n g = record { at = t.note; first = sym g.first; on_line = refl }

pub at_end : (all : List (Item Note)) (n : ℕ) → GoesOn all [] n → HasNoClass all n
at_end all n g = record { none = sym g.first; counted = omega (arith, g.counted_on); no_class = sym g.classes_left }

-- ---- the item at a place

pub item_at : (all : List (Item Note)) (items : List ScriptItem) (i n : ℕ) (x : ScriptItem) → i < length items → x ≡ get_or items i x →
    GoesOn all (map item_view (drop i items)) n → GoesOn all (item_view x ∷ map item_view (drop (i + 1) items)) n
item_at all items i n x within is g =
    let P : List (Item Note) → Type 0 = λ rest. GoesOn all rest n in
    subst P (at_drop_more (map item_view) items i x within ∙ ap (λ y. item_view y ∷ map item_view (drop (i + 1) items)) (sym is)) g

pub none_left : (all : List (Item Note)) (items : List ScriptItem) (i n : ℕ) → length items ≤ i → GoesOn all (map item_view (drop i items)) n → GoesOn all [] n
none_left all items i n past g =
    let P : List (Item Note) → Type 0 = λ rest. GoesOn all rest n in subst P (at_drop_all (map item_view) items i past) g

-- ---- the answers

pub counted_all : (items : List (Item Note)) (n : ℕ) → HasNoClass items n → counted n 0 ≡ checked_by (first_class items) items
counted_all items n h =
    ap (λ m. counted m 0) (sym h.counted) ∙ ap (λ m. counted (functions items) m) (sym h.no_class) ∙ ap (λ first. checked_by first items) (sym h.none)

pub not_counted : (items : List (Item Note)) (line : ℕ) → HasClassOn items line → not_yet line ≡ checked_by (first_class items) items
not_counted items line h = ap not_yet (sym h.on_line) ∙ ap (λ first. checked_by first items) (sym h.first)

zero_text : codes "0" ≡ decimal 0
unfolding digits
zero_text = refl

-- no classes, in the text that is written
pub no_class_text : (n : ℕ) → codes "ok: " ++ decimal n ++ codes " functions, 0 classes\n" ≡ counted_text n 0
no_class_text n =
    sym (append_assoc (codes "ok: " ++ decimal n ++ codes " functions, ") (codes "0") (codes " classes\n")
    ∙ append_assoc (codes "ok: " ++ decimal n) (codes " functions, ") (codes "0 classes\n"))
    ∙ ap (λ zero. codes "ok: " ++ decimal n ++ codes " functions, " ++ zero ++ codes " classes\n") zero_text
