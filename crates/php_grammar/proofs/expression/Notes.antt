-- The notes of a tree depend on its form and its place alone.
use Rattle.std.proofs.Common.{◌≡◌, ℕ, ◌+◌, refl, ◌∙◌, ap, arith}
use Rattle.php_ast.specs.expression.Tree.{Member, named, reserved, held}
use Rattle.php_ast.specs.expression.Tree.{Tree, leaf, template, enclosed, listed, exit, exit_empty, static_member, append, index, selected, computed, call, new, new_with, prefix, count, binary, instance_of, instance_of_static, choice, short_choice, assign, yield_nothing, yield_value, yield_pair}
use Rattle.php_ast.specs.expression.Tree.{Items, none, and, skip, Lead, plain, reference, spread, keyed, keyed_reference, Pieces, no_piece, bytes, value, Class, class_name, class_static, class_found, Steps, from, step_property, step_index}
use Rattle.php_ast.specs.expression.Placed.{opening_size, list_opening_size, setting_size, comma_size, size, size_items, size_lead, size_pieces, size_class, size_steps, Notes, noted_member, noted, noted_items, noted_lead, noted_pieces, noted_class, noted_steps}

-- ---- sizes

comma_noted : {S T : Type 0} (f : Notes T) (at : ℕ) (items : Items S) → comma_size (noted_items f at items) ≡ comma_size items
comma_noted f at none = refl
comma_noted f at (and items lead e) = refl
comma_noted f at (skip items) = refl

mutual
  pub size_noted : {S T : Type 0} (f : Notes T) (at : ℕ) (e : Tree S) → size (noted f at e) ≡ size e
  size_noted f at (leaf spot l) = refl
  size_noted f at (template spot pieces) = omega (arith, pieces_noted f (at + 1) pieces)
  size_noted f at (enclosed spot enclosure e) = omega (arith, size_noted f (at + opening_size enclosure) e)
  size_noted f at (listed spot listing items) = omega (arith, items_noted f (at + list_opening_size listing) items)
  size_noted f at (exit spot) = refl
  size_noted f at (exit_empty spot) = refl
  size_noted f at (static_member spot m) = refl
  size_noted f at (append e) = omega (arith, size_noted f at e)
  size_noted f at (index e key) = omega (arith, size_noted f at e, size_noted f (at + size e + 1) key)
  size_noted f at (selected e arrow m) = omega (arith, size_noted f at e)
  size_noted f at (computed e key) = omega (arith, size_noted f at e, size_noted f (at + size e + 2) key)
  size_noted f at (call g items) = omega (arith, size_noted f at g, items_noted f (at + size g + 1) items)
  size_noted f at (new spot class) = omega (arith, class_noted f (at + 1) class)
  size_noted f at (new_with spot class items) = omega (arith, class_noted f (at + 1) class, items_noted f (at + 1 + size_class class + 1) items)
  size_noted f at (prefix spot op e) = omega (arith, size_noted f (at + 1) e)
  size_noted f at (count e way) = omega (arith, size_noted f at e)
  size_noted f at (binary op l r) = omega (arith, size_noted f at l, size_noted f (at + size l + 1) r)
  size_noted f at (instance_of l r) = omega (arith, size_noted f at l, size_noted f (at + size l + 1) r)
  size_noted f at (instance_of_static l spot) = omega (arith, size_noted f at l)
  size_noted f at (choice c a b) =
      omega (arith, size_noted f at c, size_noted f (at + size c + 1) a, size_noted f (at + size c + 1 + size a + 1) b)
  size_noted f at (short_choice c b) = omega (arith, size_noted f at c, size_noted f (at + size c + 2) b)
  size_noted f at (assign how l r) = omega (arith, size_noted f at l, size_noted f (at + size l + setting_size how) r)
  size_noted f at (yield_nothing spot) = refl
  size_noted f at (yield_value spot v) = omega (arith, size_noted f (at + 1) v)
  size_noted f at (yield_pair spot k v) = omega (arith, size_noted f (at + 1) k, size_noted f (at + 1 + size k + 1) v)

  pub items_noted : {S T : Type 0} (f : Notes T) (at : ℕ) (items : Items S) → size_items (noted_items f at items) ≡ size_items items
  items_noted f at none = refl
  items_noted f at (and items lead e) =
      omega (
        arith,
        items_noted f at items,
        comma_noted f at items,
        lead_noted f (at + size_items items + comma_size items) lead,
        size_noted f (at + size_items items + comma_size items + size_lead lead) e,
      )
  items_noted f at (skip items) = omega (arith, items_noted f at items, comma_noted f at items)

  lead_noted : {S T : Type 0} (f : Notes T) (at : ℕ) (lead : Lead S) → size_lead (noted_lead f at lead) ≡ size_lead lead
  lead_noted f at plain = refl
  lead_noted f at reference = refl
  lead_noted f at spread = refl
  lead_noted f at (keyed k) = omega (arith, size_noted f at k)
  lead_noted f at (keyed_reference k) = omega (arith, size_noted f at k)

  pieces_noted : {S T : Type 0} (f : Notes T) (at : ℕ) (pieces : Pieces S) → size_pieces (noted_pieces f at pieces) ≡ size_pieces pieces
  pieces_noted f at no_piece = refl
  pieces_noted f at (bytes pieces text) = omega (arith, pieces_noted f at pieces)
  pieces_noted f at (value pieces e) = omega (arith, pieces_noted f at pieces, size_noted f (at + size_pieces pieces + 1) e)

  class_noted : {S T : Type 0} (f : Notes T) (at : ℕ) (class : Class S) → size_class (noted_class f at class) ≡ size_class class
  class_noted f at (class_name spot text) = refl
  class_noted f at (class_static spot) = refl
  class_noted f at (class_found steps) = steps_noted f at steps

  steps_noted : {S T : Type 0} (f : Notes T) (at : ℕ) (steps : Steps S) → size_steps (noted_steps f at steps) ≡ size_steps steps
  steps_noted f at (from spot text) = refl
  steps_noted f at (step_property steps m) = omega (arith, steps_noted f at steps)
  steps_noted f at (step_index steps e) = omega (arith, steps_noted f at steps, size_noted f (at + size_steps steps + 1) e)

-- ---- notes over notes

pub member_again : {S T U : Type 0} (f : Notes T) (g : Notes U) (i at : ℕ) (m : Member S) → noted_member g at (noted_member f i m) ≡ noted_member g at m
member_again f g i at (named spot text) = refl
member_again f g i at (reserved spot k) = refl
member_again f g i at (held spot text) = refl

mutual
  pub again : {S T U : Type 0} (f : Notes T) (g : Notes U) (i at : ℕ) (e : Tree S) → noted g at (noted f i e) ≡ noted g at e
  again f g i at (leaf spot l) = refl
  again f g i at (template spot pieces) = ap (template (g.token at)) (pieces_again f g (i + 1) (at + 1) pieces)
  again f g i at (enclosed spot enclosure e) = ap (enclosed (g.token at) enclosure) (again f g (i + opening_size enclosure) (at + opening_size enclosure) e)
  again f g i at (listed spot listing items) =
      ap (listed (g.token at) listing) (items_again f g (i + list_opening_size listing) (at + list_opening_size listing) items)
  again f g i at (exit spot) = refl
  again f g i at (exit_empty spot) = refl
  again f g i at (static_member spot m) = ap (static_member (g.token at)) (member_again f g (i + 2) (at + 2) m)
  again f g i at (append e) = ap append (again f g i at e)
  again f g i at (index e key) =
      ap (λ n. index (noted g at (noted f i e)) (noted g (at + n + 1) (noted f (i + size e + 1) key))) (size_noted f i e)
      ∙ ap (λ x. index x (noted g (at + size e + 1) (noted f (i + size e + 1) key))) (again f g i at e)
      ∙ ap (index (noted g at e)) (again f g (i + size e + 1) (at + size e + 1) key)
  again f g i at (selected e arrow m) =
      ap (λ n. selected (noted g at (noted f i e)) arrow (noted_member g (at + n + 1) (noted_member f (i + size e + 1) m))) (size_noted f i e)
      ∙ ap (λ x. selected x arrow (noted_member g (at + size e + 1) (noted_member f (i + size e + 1) m))) (again f g i at e)
      ∙ ap (selected (noted g at e) arrow) (member_again f g (i + size e + 1) (at + size e + 1) m)
  again f g i at (computed e key) =
      ap (λ n. computed (noted g at (noted f i e)) (noted g (at + n + 2) (noted f (i + size e + 2) key))) (size_noted f i e)
      ∙ ap (λ x. computed x (noted g (at + size e + 2) (noted f (i + size e + 2) key))) (again f g i at e)
      ∙ ap (computed (noted g at e)) (again f g (i + size e + 2) (at + size e + 2) key)
  again f g i at (call h items) =
      ap (λ n. call (noted g at (noted f i h)) (noted_items g (at + n + 1) (noted_items f (i + size h + 1) items))) (size_noted f i h)
      ∙ ap (λ x. call x (noted_items g (at + size h + 1) (noted_items f (i + size h + 1) items))) (again f g i at h)
      ∙ ap (call (noted g at h)) (items_again f g (i + size h + 1) (at + size h + 1) items)
  again f g i at (new spot class) = ap (new (g.token at)) (class_again f g (i + 1) (at + 1) class)
  again f g i at (new_with spot class items) =
      ap (λ n. new_with (g.token at) (noted_class g (at + 1) (noted_class f (i + 1) class)) (noted_items g (at + 1 + n + 1) (noted_items f (i + 1 + size_class class + 1) items)))
      (class_noted f (i + 1) class)
      ∙ ap (λ x. new_with (g.token at) x (noted_items g (at + 1 + size_class class + 1) (noted_items f (i + 1 + size_class class + 1) items))) (class_again f g (i + 1) (at + 1) class)
      ∙ ap (new_with (g.token at) (noted_class g (at + 1) class)) (items_again f g (i + 1 + size_class class + 1) (at + 1 + size_class class + 1) items)
  again f g i at (prefix spot op e) = ap (prefix (g.token at) op) (again f g (i + 1) (at + 1) e)
  again f g i at (count e way) = ap (λ x. count x way) (again f g i at e)
  again f g i at (binary op l r) =
      ap (λ n. binary op (noted g at (noted f i l)) (noted g (at + n + 1) (noted f (i + size l + 1) r))) (size_noted f i l)
      ∙ ap (λ x. binary op x (noted g (at + size l + 1) (noted f (i + size l + 1) r))) (again f g i at l)
      ∙ ap (binary op (noted g at l)) (again f g (i + size l + 1) (at + size l + 1) r)
  again f g i at (instance_of l r) =
      ap (λ n. instance_of (noted g at (noted f i l)) (noted g (at + n + 1) (noted f (i + size l + 1) r))) (size_noted f i l)
      ∙ ap (λ x. instance_of x (noted g (at + size l + 1) (noted f (i + size l + 1) r))) (again f g i at l)
      ∙ ap (instance_of (noted g at l)) (again f g (i + size l + 1) (at + size l + 1) r)
  again f g i at (instance_of_static l spot) =
      ap (λ n. instance_of_static (noted g at (noted f i l)) (g.token (at + n + 1))) (size_noted f i l)
      ∙ ap (λ x. instance_of_static x (g.token (at + size l + 1))) (again f g i at l)
  again f g i at (choice c a b) =
      ap (λ n. choice (noted g at (noted f i c)) (noted g (at + n + 1) (noted f (i + size c + 1) a))
      (noted g (at + n + 1 + size (noted f (i + size c + 1) a) + 1) (noted f (i + size c + 1 + size a + 1) b))) (size_noted f i c)
      ∙ ap (λ n. choice (noted g at (noted f i c)) (noted g (at + size c + 1) (noted f (i + size c + 1) a))
      (noted g (at + size c + 1 + n + 1) (noted f (i + size c + 1 + size a + 1) b))) (size_noted f (i + size c + 1) a)
      ∙ ap (λ x. choice x (noted g (at + size c + 1) (noted f (i + size c + 1) a)) (noted g (at + size c + 1 + size a + 1) (noted f (i + size c + 1 + size a + 1) b))) (again f g i at c)
      ∙ ap (λ x. choice (noted g at c) x (noted g (at + size c + 1 + size a + 1) (noted f (i + size c + 1 + size a + 1) b))) (again f g (i + size c + 1) (at + size c + 1) a)
      ∙ ap (choice (noted g at c) (noted g (at + size c + 1) a)) (again f g (i + size c + 1 + size a + 1) (at + size c + 1 + size a + 1) b)
  again f g i at (short_choice c b) =
      ap (λ n. short_choice (noted g at (noted f i c)) (noted g (at + n + 2) (noted f (i + size c + 2) b))) (size_noted f i c)
      ∙ ap (λ x. short_choice x (noted g (at + size c + 2) (noted f (i + size c + 2) b))) (again f g i at c)
      ∙ ap (short_choice (noted g at c)) (again f g (i + size c + 2) (at + size c + 2) b)
  again f g i at (assign how l r) =
      ap (λ n. assign how (noted g at (noted f i l)) (noted g (at + n + setting_size how) (noted f (i + size l + setting_size how) r))) (size_noted f i l)
      ∙ ap (λ x. assign how x (noted g (at + size l + setting_size how) (noted f (i + size l + setting_size how) r))) (again f g i at l)
      ∙ ap (assign how (noted g at l)) (again f g (i + size l + setting_size how) (at + size l + setting_size how) r)
  again f g i at (yield_nothing spot) = refl
  again f g i at (yield_value spot v) = ap (yield_value (g.token at)) (again f g (i + 1) (at + 1) v)
  again f g i at (yield_pair spot k v) =
      ap (λ n. yield_pair (g.token at) (noted g (at + 1) (noted f (i + 1) k)) (noted g (at + 1 + n + 1) (noted f (i + 1 + size k + 1) v))) (size_noted f (i + 1) k)
      ∙ ap (λ x. yield_pair (g.token at) x (noted g (at + 1 + size k + 1) (noted f (i + 1 + size k + 1) v))) (again f g (i + 1) (at + 1) k)
      ∙ ap (yield_pair (g.token at) (noted g (at + 1) k)) (again f g (i + 1 + size k + 1) (at + 1 + size k + 1) v)

  pub items_again : {S T U : Type 0} (f : Notes T) (g : Notes U) (i at : ℕ) (items : Items S) → noted_items g at (noted_items f i items) ≡ noted_items g at items
  items_again f g i at none = refl
  items_again f g i at (and items lead e) =
      ap (λ n. and (noted_items g at (noted_items f i items)) (noted_lead g (at + n + comma_size (noted_items f i items)) (noted_lead f (i + size_items items + comma_size items) lead))
      (noted g (at + n + comma_size (noted_items f i items) + size_lead (noted_lead f (i + size_items items + comma_size items) lead)) (noted f (i + size_items items + comma_size items + size_lead lead) e)))
      (items_noted f i items)
      ∙ ap (λ n. and (noted_items g at (noted_items f i items)) (noted_lead g (at + size_items items + n) (noted_lead f (i + size_items items + comma_size items) lead))
      (noted g (at + size_items items + n + size_lead (noted_lead f (i + size_items items + comma_size items) lead)) (noted f (i + size_items items + comma_size items + size_lead lead) e)))
      (comma_noted f i items)
      ∙ ap (λ n. and (noted_items g at (noted_items f i items)) (noted_lead g (at + size_items items + comma_size items) (noted_lead f (i + size_items items + comma_size items) lead))
      (noted g (at + size_items items + comma_size items + n) (noted f (i + size_items items + comma_size items + size_lead lead) e)))
      (lead_noted f (i + size_items items + comma_size items) lead)
      ∙ ap (λ x. and x (noted_lead g (at + size_items items + comma_size items) (noted_lead f (i + size_items items + comma_size items) lead))
      (noted g (at + size_items items + comma_size items + size_lead lead) (noted f (i + size_items items + comma_size items + size_lead lead) e)))
      (items_again f g i at items)
      ∙ ap (λ x. and (noted_items g at items) x (noted g (at + size_items items + comma_size items + size_lead lead) (noted f (i + size_items items + comma_size items + size_lead lead) e)))
      (lead_again f g (i + size_items items + comma_size items) (at + size_items items + comma_size items) lead)
      ∙ ap (and (noted_items g at items) (noted_lead g (at + size_items items + comma_size items) lead))
      (again f g (i + size_items items + comma_size items + size_lead lead) (at + size_items items + comma_size items + size_lead lead) e)
  items_again f g i at (skip items) = ap skip (items_again f g i at items)

  lead_again : {S T U : Type 0} (f : Notes T) (g : Notes U) (i at : ℕ) (lead : Lead S) → noted_lead g at (noted_lead f i lead) ≡ noted_lead g at lead
  lead_again f g i at plain = refl
  lead_again f g i at reference = refl
  lead_again f g i at spread = refl
  lead_again f g i at (keyed k) = ap keyed (again f g i at k)
  lead_again f g i at (keyed_reference k) = ap keyed_reference (again f g i at k)

  pieces_again : {S T U : Type 0} (f : Notes T) (g : Notes U) (i at : ℕ) (pieces : Pieces S) → noted_pieces g at (noted_pieces f i pieces) ≡ noted_pieces g at pieces
  pieces_again f g i at no_piece = refl
  pieces_again f g i at (bytes pieces text) = ap (λ x. bytes x text) (pieces_again f g i at pieces)
  pieces_again f g i at (value pieces e) =
      ap (λ n. value (noted_pieces g at (noted_pieces f i pieces)) (noted g (at + n + 1) (noted f (i + size_pieces pieces + 1) e))) (pieces_noted f i pieces)
      ∙ ap (λ x. value x (noted g (at + size_pieces pieces + 1) (noted f (i + size_pieces pieces + 1) e))) (pieces_again f g i at pieces)
      ∙ ap (value (noted_pieces g at pieces)) (again f g (i + size_pieces pieces + 1) (at + size_pieces pieces + 1) e)

  class_again : {S T U : Type 0} (f : Notes T) (g : Notes U) (i at : ℕ) (class : Class S) → noted_class g at (noted_class f i class) ≡ noted_class g at class
  class_again f g i at (class_name spot text) = refl
  class_again f g i at (class_static spot) = refl
  class_again f g i at (class_found steps) = ap class_found (steps_again f g i at steps)

  steps_again : {S T U : Type 0} (f : Notes T) (g : Notes U) (i at : ℕ) (steps : Steps S) → noted_steps g at (noted_steps f i steps) ≡ noted_steps g at steps
  steps_again f g i at (from spot text) = refl
  steps_again f g i at (step_property steps m) =
      ap (λ n. step_property (noted_steps g at (noted_steps f i steps)) (noted_member g (at + n + 1) (noted_member f (i + size_steps steps + 1) m))) (steps_noted f i steps)
      ∙ ap (λ x. step_property x (noted_member g (at + size_steps steps + 1) (noted_member f (i + size_steps steps + 1) m))) (steps_again f g i at steps)
      ∙ ap (step_property (noted_steps g at steps)) (member_again f g (i + size_steps steps + 1) (at + size_steps steps + 1) m)
  steps_again f g i at (step_index steps e) =
      ap (λ n. step_index (noted_steps g at (noted_steps f i steps)) (noted g (at + n + 1) (noted f (i + size_steps steps + 1) e))) (steps_noted f i steps)
      ∙ ap (λ x. step_index x (noted g (at + size_steps steps + 1) (noted f (i + size_steps steps + 1) e))) (steps_again f g i at steps)
      ∙ ap (step_index (noted_steps g at steps)) (again f g (i + size_steps steps + 1) (at + size_steps steps + 1) e)
