-- The nesting of a tree that stands deeper: each depth is so much more.
use Rattle.std.proofs.Common.{◌≡◌, ℕ, ◌+◌, List, ◌∷◌, refl, ◌∙◌, ap, arith}
use Rattle.php_ast.specs.declared.operator.ArrayForm.TheVariants as form
use Rattle.php_ast.specs.expression.Tree.{Enclosure, parentheses, emptiness, exiting, Listing, array, is_set, Setting, by_value, by_reference}
use Rattle.php_ast.specs.expression.Tree.{Tree, leaf, template, enclosed, listed, exit, exit_empty, static_member, append, index, selected, computed, call, new, new_with, prefix, count, binary, instance_of, instance_of_static, choice, short_choice, assign, yield_nothing, yield_value, yield_pair}
use Rattle.php_ast.specs.expression.Tree.{Items, none, and, skip, Lead, plain, reference, spread, keyed, keyed_reference, Pieces, no_piece, bytes, value, Class, class_name, class_static, class_found, Steps, from, step_property, step_index}
use Rattle.php_ast.specs.declared.power.Grouping.{Grouping}
use Rattle.php_ast.specs.declared.power.Grouping.TheVariants.{ToLeft, ToRight, Ungrouped}
use Rattle.php_ast.specs.Power.{binary_row}
use Rattle.php_ast.specs.expression.Nesting.{right_depth, opening_nests, list_opening_nests, setting_nests, comma_nests, nests, nests_items, nests_lead, nests_pieces, nests_class, nests_steps}
use Rattle.php_grammar.proofs.Deepened.{shifted}

right_shift : (g : Grouping) (d k : ℕ) → right_depth g + (d + k) ≡ (right_depth g + d) + k
right_shift ToLeft d k = omega arith
right_shift ToRight d k = omega arith
right_shift Ungrouped d k = omega arith

pub one_more : (d k : ℕ) → 1 + (d + k) ≡ (1 + d) + k
one_more d k = omega arith

opening_shift : (enclosure : Enclosure) (d k : ℕ) (ns w : List ℕ) → opening_nests enclosure (d + k) (shifted k ns w) ≡ shifted k (opening_nests enclosure d ns) w
opening_shift parentheses d k ns w = refl
opening_shift emptiness d k ns w = refl
opening_shift exiting d k ns w = refl

list_opening_shift : (listing : Listing) (d k : ℕ) (ns w : List ℕ) → list_opening_nests listing (d + k) (shifted k ns w) ≡ shifted k (list_opening_nests listing d ns) w
list_opening_shift (array form.Brackets) d k ns w = refl
list_opening_shift (array form.Array) d k ns w = refl
list_opening_shift (array form.List) d k ns w = refl
list_opening_shift is_set d k ns w = refl

setting_shift : (how : Setting) (d k : ℕ) (ns w : List ℕ) → setting_nests how (d + k) (shifted k ns w) ≡ shifted k (setting_nests how d ns) w
setting_shift (by_value op) d k ns w = refl
setting_shift by_reference d k ns w = refl

comma_shift : {S : Type 0} (items : Items S) (d k : ℕ) (ns w : List ℕ) → comma_nests items (d + k) (shifted k ns w) ≡ shifted k (comma_nests items d ns) w
comma_shift none d k ns w = refl
comma_shift (and items lead e) d k ns w = refl
comma_shift (skip items) d k ns w = refl

mutual
  pub nests_shift : {S : Type 0} (x : Tree S) (d k : ℕ) (ns w : List ℕ) → nests x (d + k) (shifted k ns w) ≡ shifted k (nests x d ns) w
  nests_shift (leaf note l) d k ns w = refl
  nests_shift (template note pieces) d k ns w = ap (λ u. (d + k) ∷ u) (pieces_shift pieces d k (d ∷ ns) w)
  nests_shift (enclosed note enclosure e) d k ns w =
      ap (λ x. opening_nests enclosure (d + k) (nests e x (x ∷ shifted k ns w))) (one_more d k)
      ∙ ap (λ u. opening_nests enclosure (d + k) u) (nests_shift e (1 + d) k ((1 + d) ∷ ns) w)
      ∙ opening_shift enclosure d k (nests e (1 + d) ((1 + d) ∷ ns)) w
  nests_shift (listed note listing items) d k ns w =
      ap (λ x. list_opening_nests listing (d + k) (nests_items items x (x ∷ shifted k ns w))) (one_more d k)
      ∙ ap (λ u. list_opening_nests listing (d + k) u) (items_shift items (1 + d) k ((1 + d) ∷ ns) w)
      ∙ list_opening_shift listing d k (nests_items items (1 + d) ((1 + d) ∷ ns)) w
  nests_shift (exit note) d k ns w = refl
  nests_shift (exit_empty note) d k ns w = ap (λ x. (d + k) ∷ (d + k) ∷ x ∷ shifted k ns w) (one_more d k)
  nests_shift (static_member note m) d k ns w = refl
  nests_shift (append e) d k ns w = ap (λ x. nests e (d + k) ((d + k) ∷ x ∷ shifted k ns w)) (one_more d k) ∙ nests_shift e d k (d ∷ (1 + d) ∷ ns) w
  nests_shift (index e key) d k ns w =
      ap (λ x. nests e (d + k) ((d + k) ∷ nests key x (x ∷ shifted k ns w))) (one_more d k)
      ∙ ap (λ u. nests e (d + k) ((d + k) ∷ u)) (nests_shift key (1 + d) k ((1 + d) ∷ ns) w)
      ∙ nests_shift e d k (d ∷ nests key (1 + d) ((1 + d) ∷ ns)) w
  nests_shift (selected e arrow m) d k ns w = nests_shift e d k (d ∷ d ∷ ns) w
  nests_shift (computed e key) d k ns w =
      ap (λ x. nests e (d + k) ((d + k) ∷ (d + k) ∷ nests key x (x ∷ shifted k ns w))) (one_more d k)
      ∙ ap (λ u. nests e (d + k) ((d + k) ∷ (d + k) ∷ u)) (nests_shift key (1 + d) k ((1 + d) ∷ ns) w)
      ∙ nests_shift e d k (d ∷ d ∷ nests key (1 + d) ((1 + d) ∷ ns)) w
  nests_shift (call f items) d k ns w =
      ap (λ x. nests f (d + k) ((d + k) ∷ nests_items items x (x ∷ shifted k ns w))) (one_more d k)
      ∙ ap (λ u. nests f (d + k) ((d + k) ∷ u)) (items_shift items (1 + d) k ((1 + d) ∷ ns) w)
      ∙ nests_shift f d k (d ∷ nests_items items (1 + d) ((1 + d) ∷ ns)) w
  nests_shift (new note class) d k ns w = ap (λ u. (d + k) ∷ u) (class_shift class d k ns w)
  nests_shift (new_with note class items) d k ns w =
      ap (λ x. (d + k) ∷ nests_class class (d + k) ((d + k) ∷ nests_items items x (x ∷ shifted k ns w))) (one_more d k)
      ∙ ap (λ u. (d + k) ∷ nests_class class (d + k) ((d + k) ∷ u)) (items_shift items (1 + d) k ((1 + d) ∷ ns) w)
      ∙ ap (λ u. (d + k) ∷ u) (class_shift class d k (d ∷ nests_items items (1 + d) ((1 + d) ∷ ns)) w)
  nests_shift (prefix note op e) d k ns w = ap (λ x. (d + k) ∷ nests e x (shifted k ns w)) (one_more d k) ∙ ap (λ u. (d + k) ∷ u) (nests_shift e (1 + d) k ns w)
  nests_shift (count e way) d k ns w = nests_shift e d k (d ∷ ns) w
  nests_shift (binary op l r) d k ns w =
      ap (λ u. nests l (d + k) ((d + k) ∷ u)) (ap (λ x. nests r x (shifted k ns w)) (right_shift (binary_row op).grouping d k))
      ∙ ap (λ u. nests l (d + k) ((d + k) ∷ u)) (nests_shift r (right_depth (binary_row op).grouping + d) k ns w)
      ∙ nests_shift l d k (d ∷ nests r (right_depth (binary_row op).grouping + d) ns) w
  nests_shift (instance_of l r) d k ns w = ap (λ u. nests l (d + k) ((d + k) ∷ u)) (nests_shift r d k ns w) ∙ nests_shift l d k (d ∷ nests r d ns) w
  nests_shift (instance_of_static l note) d k ns w = nests_shift l d k (d ∷ d ∷ ns) w
  nests_shift (choice c a b) d k ns w =
      ap (λ x. nests c (d + k) ((d + k) ∷ nests a x (x ∷ nests b (d + k) (shifted k ns w)))) (one_more d k)
      ∙ ap (λ u. nests c (d + k) ((d + k) ∷ nests a ((1 + d) + k) (((1 + d) + k) ∷ u))) (nests_shift b d k ns w)
      ∙ ap (λ u. nests c (d + k) ((d + k) ∷ u)) (nests_shift a (1 + d) k ((1 + d) ∷ nests b d ns) w)
      ∙ nests_shift c d k (d ∷ nests a (1 + d) ((1 + d) ∷ nests b d ns)) w
  nests_shift (short_choice c b) d k ns w = ap (λ u. nests c (d + k) ((d + k) ∷ (d + k) ∷ u)) (nests_shift b d k ns w) ∙ nests_shift c d k (d ∷ d ∷ nests b d ns) w
  nests_shift (assign how l r) d k ns w =
      ap (λ x. nests l (d + k) (setting_nests how (d + k) (nests r x (shifted k ns w)))) (one_more d k)
      ∙ ap (λ u. nests l (d + k) (setting_nests how (d + k) u)) (nests_shift r (1 + d) k ns w)
      ∙ ap (λ u. nests l (d + k) u) (setting_shift how d k (nests r (1 + d) ns) w)
      ∙ nests_shift l d k (setting_nests how d (nests r (1 + d) ns)) w
  nests_shift (yield_nothing note) d k ns w = refl
  nests_shift (yield_value note v) d k ns w = ap (λ x. (d + k) ∷ nests v x (shifted k ns w)) (one_more d k) ∙ ap (λ u. (d + k) ∷ u) (nests_shift v (1 + d) k ns w)
  nests_shift (yield_pair note key v) d k ns w =
      ap (λ x. (d + k) ∷ nests key x (x ∷ nests v x (shifted k ns w))) (one_more d k)
      ∙ ap (λ u. (d + k) ∷ nests key ((1 + d) + k) (((1 + d) + k) ∷ u)) (nests_shift v (1 + d) k ns w)
      ∙ ap (λ u. (d + k) ∷ u) (nests_shift key (1 + d) k ((1 + d) ∷ nests v (1 + d) ns) w)

  pub items_shift : {S : Type 0} (x : Items S) (d k : ℕ) (ns w : List ℕ) → nests_items x (d + k) (shifted k ns w) ≡ shifted k (nests_items x d ns) w
  items_shift none d k ns w = refl
  items_shift (and items lead e) d k ns w =
      ap (λ u. nests_items items (d + k) (comma_nests items (d + k) (nests_lead lead (d + k) u))) (nests_shift e d k ns w)
      ∙ ap (λ u. nests_items items (d + k) (comma_nests items (d + k) u)) (lead_shift lead d k (nests e d ns) w)
      ∙ ap (λ u. nests_items items (d + k) u) (comma_shift items d k (nests_lead lead d (nests e d ns)) w)
      ∙ items_shift items d k (comma_nests items d (nests_lead lead d (nests e d ns))) w
  items_shift (skip items) d k ns w = ap (λ u. nests_items items (d + k) u) (comma_shift items d k ns w) ∙ items_shift items d k (comma_nests items d ns) w

  lead_shift : {S : Type 0} (x : Lead S) (d k : ℕ) (ns w : List ℕ) → nests_lead x (d + k) (shifted k ns w) ≡ shifted k (nests_lead x d ns) w
  lead_shift plain d k ns w = refl
  lead_shift reference d k ns w = refl
  lead_shift spread d k ns w = refl
  lead_shift (keyed key) d k ns w = nests_shift key d k (d ∷ ns) w
  lead_shift (keyed_reference key) d k ns w = nests_shift key d k (d ∷ d ∷ ns) w

  pieces_shift : {S : Type 0} (x : Pieces S) (d k : ℕ) (ns w : List ℕ) → nests_pieces x (d + k) (shifted k ns w) ≡ shifted k (nests_pieces x d ns) w
  pieces_shift no_piece d k ns w = refl
  pieces_shift (bytes pieces text) d k ns w = pieces_shift pieces d k (d ∷ ns) w
  pieces_shift (value pieces e) d k ns w =
      ap (λ x. nests_pieces pieces (d + k) ((d + k) ∷ nests e x (x ∷ shifted k ns w))) (one_more d k)
      ∙ ap (λ u. nests_pieces pieces (d + k) ((d + k) ∷ u)) (nests_shift e (1 + d) k ((1 + d) ∷ ns) w)
      ∙ pieces_shift pieces d k (d ∷ nests e (1 + d) ((1 + d) ∷ ns)) w

  class_shift : {S : Type 0} (x : Class S) (d k : ℕ) (ns w : List ℕ) → nests_class x (d + k) (shifted k ns w) ≡ shifted k (nests_class x d ns) w
  class_shift (class_name note text) d k ns w = refl
  class_shift (class_static note) d k ns w = refl
  class_shift (class_found steps) d k ns w = steps_shift steps d k ns w

  steps_shift : {S : Type 0} (x : Steps S) (d k : ℕ) (ns w : List ℕ) → nests_steps x (d + k) (shifted k ns w) ≡ shifted k (nests_steps x d ns) w
  steps_shift (from note text) d k ns w = refl
  steps_shift (step_property steps m) d k ns w = steps_shift steps d k (d ∷ d ∷ ns) w
  steps_shift (step_index steps e) d k ns w =
      ap (λ x. nests_steps steps (d + k) ((d + k) ∷ nests e x (x ∷ shifted k ns w))) (one_more d k)
      ∙ ap (λ u. nests_steps steps (d + k) ((d + k) ∷ u)) (nests_shift e (1 + d) k ((1 + d) ∷ ns) w)
      ∙ steps_shift steps d k (d ∷ nests e (1 + d) ((1 + d) ∷ ns)) w
