-- A form has no notes: noting nothing of its tokens leaves it as it is.
use Rattle.std.proofs.Common.{◌≡◌, ℕ, ◌+◌, refl, ◌∙◌, ap}
use Rattle.php_ast.specs.expression.Tree.{Member, named, reserved, held}
use Rattle.php_ast.specs.expression.Tree.{leaf, template, enclosed, listed, exit, exit_empty, static_member, append, index, selected, computed, call, new, new_with, prefix, count, binary, instance_of, instance_of_static, choice, short_choice, assign, yield_nothing, yield_value, yield_pair}
use Rattle.php_ast.specs.expression.Tree.{Items, none, and, skip, Lead, plain, reference, spread, keyed, keyed_reference, Pieces, no_piece, bytes, value, Class, class_name, class_static, class_found, Steps, from, step_property, step_index}
use Rattle.php_ast.specs.expression.Placed.{size, size_items, size_lead, size_pieces, size_class, size_steps, comma_size, setting_size, no_notes, noted, noted_member, noted_items, noted_lead, noted_pieces, noted_class, noted_steps}
use Rattle.php_grammar.specs.expression.Machine.{Nothing, Form}

blank_member : (k : ℕ) (m : Member Nothing) → noted_member no_notes k m ≡ m
blank_member k (named spot text) = refl
blank_member k (reserved spot word) = refl
blank_member k (held spot text) = refl

mutual
  pub blank : (k : ℕ) (e : Form) → noted no_notes k e ≡ e
  blank k (leaf spot l) = refl
  blank k (template spot pieces) = ap (template tt) (blank_pieces _ pieces)
  blank k (enclosed spot enclosure e) = ap (enclosed tt enclosure) (blank _ e)
  blank k (listed spot listing items) = ap (listed tt listing) (blank_items _ items)
  blank k (exit spot) = refl
  blank k (exit_empty spot) = refl
  blank k (static_member spot m) = ap (static_member tt) (blank_member (k + 2) m)
  blank k (append e) = ap append (blank k e)
  blank k (index e key) = ap (λ x. index x (noted no_notes (k + size e + 1) key)) (blank k e) ∙ ap (index e) (blank _ key)
  blank k (selected e arrow m) = ap (λ x. selected x arrow (noted_member no_notes (k + size e + 1) m)) (blank k e) ∙ ap (selected e arrow) (blank_member (k + size e + 1) m)
  blank k (computed e key) = ap (λ x. computed x (noted no_notes (k + size e + 2) key)) (blank k e) ∙ ap (computed e) (blank _ key)
  blank k (call f items) = ap (λ x. call x (noted_items no_notes (k + size f + 1) items)) (blank k f) ∙ ap (call f) (blank_items _ items)
  blank k (new spot class) = ap (new tt) (blank_class _ class)
  blank k (new_with spot class items) = ap (λ x. new_with tt x (noted_items no_notes (k + 1 + size_class class + 1) items)) (blank_class (k + 1) class) ∙ ap (new_with tt class) (blank_items (k + 1 + size_class class + 1) items)
  blank k (prefix spot op e) = ap (prefix tt op) (blank _ e)
  blank k (count e way) = ap (λ x. count x way) (blank k e)
  blank k (binary op l r) = ap (λ x. binary op x (noted no_notes (k + size l + 1) r)) (blank k l) ∙ ap (binary op l) (blank _ r)
  blank k (instance_of l r) = ap (λ x. instance_of x (noted no_notes (k + size l + 1) r)) (blank k l) ∙ ap (instance_of l) (blank _ r)
  blank k (instance_of_static l spot) = ap (λ x. instance_of_static x tt) (blank k l)
  blank k (choice c a b) = ap (λ x. choice x (noted no_notes (k + size c + 1) a) (noted no_notes (k + size c + 1 + size a + 1) b)) (blank k c) ∙ ap (λ x. choice c x (noted no_notes (k + size c + 1 + size a + 1) b)) (blank _ a) ∙ ap (choice c a) (blank _ b)
  blank k (short_choice c b) = ap (λ x. short_choice x (noted no_notes (k + size c + 2) b)) (blank k c) ∙ ap (short_choice c) (blank _ b)
  blank k (assign how l r) = ap (λ x. assign how x (noted no_notes (k + size l + setting_size how) r)) (blank k l) ∙ ap (assign how l) (blank _ r)
  blank k (yield_nothing spot) = refl
  blank k (yield_value spot v) = ap (yield_value tt) (blank _ v)
  blank k (yield_pair spot key v) = ap (λ x. yield_pair tt x (noted no_notes (k + 1 + size key + 1) v)) (blank _ key) ∙ ap (yield_pair tt key) (blank _ v)

  blank_items : (k : ℕ) (items : Items Nothing) → noted_items no_notes k items ≡ items
  blank_items k none = refl
  blank_items k (and items lead e) =
      ap (λ x. and x (noted_lead no_notes (k + size_items items + comma_size items) lead) (noted no_notes (k + size_items items + comma_size items + size_lead lead) e)) (blank_items k items) ∙ ap (λ x. and items x (noted no_notes (k + size_items items + comma_size items + size_lead lead) e)) (blank_lead _ lead) ∙ ap (and items lead) (blank _ e)
  blank_items k (skip items) = ap skip (blank_items k items)

  blank_lead : (k : ℕ) (lead : Lead Nothing) → noted_lead no_notes k lead ≡ lead
  blank_lead k plain = refl
  blank_lead k reference = refl
  blank_lead k spread = refl
  blank_lead k (keyed key) = ap keyed (blank k key)
  blank_lead k (keyed_reference key) = ap keyed_reference (blank k key)

  blank_pieces : (k : ℕ) (pieces : Pieces Nothing) → noted_pieces no_notes k pieces ≡ pieces
  blank_pieces k no_piece = refl
  blank_pieces k (bytes pieces text) = ap (λ x. bytes x text) (blank_pieces k pieces)
  blank_pieces k (value pieces e) = ap (λ x. value x (noted no_notes (k + size_pieces pieces + 1) e)) (blank_pieces k pieces) ∙ ap (value pieces) (blank _ e)

  blank_class : (k : ℕ) (class : Class Nothing) → noted_class no_notes k class ≡ class
  blank_class k (class_name spot text) = refl
  blank_class k (class_static spot) = refl
  blank_class k (class_found steps) = ap class_found (blank_steps k steps)

  blank_steps : (k : ℕ) (steps : Steps Nothing) → noted_steps no_notes k steps ≡ steps
  blank_steps k (from spot text) = refl
  blank_steps k (step_property steps m) = ap (λ x. step_property x (noted_member no_notes (k + size_steps steps + 1) m)) (blank_steps k steps) ∙ ap (step_property steps) (blank_member (k + size_steps steps + 1) m)
  blank_steps k (step_index steps e) = ap (λ x. step_index x (noted no_notes (k + size_steps steps + 1) e)) (blank_steps k steps) ∙ ap (step_index steps) (blank _ e)
