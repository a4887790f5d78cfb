-- How deep each token of an expression is nested, by the tree alone.
--
-- What nests is: parentheses, brackets, braces, the parts of a text, the operand of a prefix operator, the right
-- side of an operator that groups to the right, and the middle of `? :`. The token that opens a construct
-- stands outside it, the token that closes it inside.
use Rattle.std.specs.Prelude.{ℕ, ◌+◌, List, ◌∷◌}
use Rattle.php_ast.specs.expression.Tree.{Enclosure, parentheses, Listing, array, Setting, by_value, by_reference}
use Rattle.php_ast.specs.declared.operator.ArrayForm.TheVariants as form
use Rattle.php_ast.specs.expression.Tree.{Tree, leaf, template, enclosed, listed, exit, exit_empty, static_member, append, index, selected, computed, call, new, new_with, prefix, count, binary, instance_of, instance_of_static, choice, short_choice, assign, yield_nothing, yield_value, yield_pair}
use Rattle.php_ast.specs.expression.Tree.{Items, none, and, skip, Lead, plain, reference, spread, keyed, keyed_reference, Pieces, no_piece, bytes, value, Class, class_name, class_static, class_found, Steps, from, step_property, step_index}
use Rattle.php_ast.specs.declared.power.Grouping.{Grouping}
use Rattle.php_ast.specs.declared.power.Grouping.TheVariants.{ToRight}
use Rattle.php_ast.specs.Power.{binary_row}

-- how much deeper the right side of an operator is
abbrev pub right_depth : Grouping → ℕ
right_depth ToRight = 1
right_depth _ = 0

-- the nesting of the tokens before an enclosed expression, and before a list
abbrev pub opening_nests : Enclosure → ℕ → List ℕ → List ℕ
opening_nests parentheses d w = d ∷ w
opening_nests _ d w = d ∷ d ∷ w

abbrev pub list_opening_nests : Listing → ℕ → List ℕ → List ℕ
list_opening_nests (array form.Brackets) d w = d ∷ w
list_opening_nests _ d w = d ∷ d ∷ w

abbrev pub setting_nests : Setting → ℕ → List ℕ → List ℕ
setting_nests (by_value op) d w = d ∷ w
setting_nests by_reference d w = d ∷ d ∷ w

abbrev pub comma_nests : {S : Type 0} → Items S → ℕ → List ℕ → List ℕ
comma_nests none d w = w
comma_nests _ d w = d ∷ w

-- the depths of the tokens of a tree that stands at depth d, before the depths of what follows
abbrev mutual
  pub nests : {S : Type 0} → Tree S → ℕ → List ℕ → List ℕ
  nests (leaf spot l) d w = d ∷ w
  nests (template spot pieces) d w = d ∷ nests_pieces pieces d (d ∷ w)
  nests (enclosed spot enclosure e) d w = opening_nests enclosure d (nests e (1 + d) ((1 + d) ∷ w))
  nests (listed spot listing items) d w = list_opening_nests listing d (nests_items items (1 + d) ((1 + d) ∷ w))
  nests (exit spot) d w = d ∷ w
  nests (exit_empty spot) d w = d ∷ d ∷ (1 + d) ∷ w
  nests (static_member spot member) d w = d ∷ d ∷ d ∷ w
  nests (append e) d w = nests e d (d ∷ (1 + d) ∷ w)
  nests (index e key) d w = nests e d (d ∷ nests key (1 + d) ((1 + d) ∷ w))
  nests (selected e arrow member) d w = nests e d (d ∷ d ∷ w)
  nests (computed e key) d w = nests e d (d ∷ d ∷ nests key (1 + d) ((1 + d) ∷ w))
  nests (call f items) d w = nests f d (d ∷ nests_items items (1 + d) ((1 + d) ∷ w))
  nests (new spot class) d w = d ∷ nests_class class d w
  nests (new_with spot class items) d w = d ∷ nests_class class d (d ∷ nests_items items (1 + d) ((1 + d) ∷ w))
  nests (prefix spot op e) d w = d ∷ nests e (1 + d) w
  nests (count e way) d w = nests e d (d ∷ w)
  nests (binary op l r) d w = nests l d (d ∷ nests r (right_depth (binary_row op).grouping + d) w)
  nests (instance_of l r) d w = nests l d (d ∷ nests r d w)
  nests (instance_of_static l spot) d w = nests l d (d ∷ d ∷ w)
  nests (choice c a b) d w = nests c d (d ∷ nests a (1 + d) ((1 + d) ∷ nests b d w))
  nests (short_choice c b) d w = nests c d (d ∷ d ∷ nests b d w)
  nests (assign setting l r) d w = nests l d (setting_nests setting d (nests r (1 + d) w))
  nests (yield_nothing spot) d w = d ∷ w
  nests (yield_value spot v) d w = d ∷ nests v (1 + d) w
  nests (yield_pair spot k v) d w = d ∷ nests k (1 + d) ((1 + d) ∷ nests v (1 + d) w)

  pub nests_items : {S : Type 0} → Items S → ℕ → List ℕ → List ℕ
  nests_items none d w = w
  nests_items (and items lead e) d w = nests_items items d (comma_nests items d (nests_lead lead d (nests e d w)))
  nests_items (skip items) d w = nests_items items d (comma_nests items d w)

  pub nests_lead : {S : Type 0} → Lead S → ℕ → List ℕ → List ℕ
  nests_lead plain d w = w
  nests_lead reference d w = d ∷ w
  nests_lead spread d w = d ∷ w
  nests_lead (keyed k) d w = nests k d (d ∷ w)
  nests_lead (keyed_reference k) d w = nests k d (d ∷ d ∷ w)

  pub nests_pieces : {S : Type 0} → Pieces S → ℕ → List ℕ → List ℕ
  nests_pieces no_piece d w = w
  nests_pieces (bytes pieces text) d w = nests_pieces pieces d (d ∷ w)
  nests_pieces (value pieces e) d w = nests_pieces pieces d (d ∷ nests e (1 + d) ((1 + d) ∷ w))

  pub nests_class : {S : Type 0} → Class S → ℕ → List ℕ → List ℕ
  nests_class (class_name spot text) d w = d ∷ w
  nests_class (class_static spot) d w = d ∷ w
  nests_class (class_found steps) d w = nests_steps steps d w

  pub nests_steps : {S : Type 0} → Steps S → ℕ → List ℕ → List ℕ
  nests_steps (from spot text) d w = d ∷ w
  nests_steps (step_property steps member) d w = nests_steps steps d (d ∷ d ∷ w)
  nests_steps (step_index steps e) d w = nests_steps steps d (d ∷ nests e (1 + d) ((1 + d) ∷ w))
