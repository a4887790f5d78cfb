-- The machine counts at each symbol the depth that the tree has there.
use Rattle.std.proofs.Common.{◌≡◌, ◌≤◌, ◌<◌, inl, inr, ◌+◌, true, false, List, [], ◌∷◌, refl, sym, ◌∙◌, ap, subst, arith}
use Rattle.php_token.specs.declared.kind.Keyword.TheVariants as word
use Rattle.php_token.specs.declared.kind.Punct.TheVariants as mark
use Rattle.php_ast.specs.declared.operator.Assign.TheVariants as setting
use Rattle.php_ast.specs.declared.operator.ArrayForm.TheVariants as form
use Rattle.php_ast.specs.Symbol as symbol
use Rattle.php_ast.specs.Symbol.{Symbol, keyword, punct}
use Rattle.php_ast.specs.expression.Tree.{parentheses, emptiness, exiting, array, is_set, Arrow, thin, colons, by_value, by_reference, Member}
use Rattle.php_ast.specs.expression.Tree.{leaf, template, enclosed, listed, exit, exit_empty, static_member, append, index, selected, computed, call, new, new_with, prefix, count, binary, instance_of, instance_of_static, choice, short_choice, assign, yield_nothing, yield_value, yield_pair}
use Rattle.php_ast.specs.expression.Tree.{Items, none, and, skip, Lead, plain, reference, spread, keyed, keyed_reference, Pieces, no_piece, bytes, value, Class, class_name, class_static, class_found, Steps, from, step_property, step_index}
use Rattle.php_ast.specs.expression.Spelling.{spell, spell_items, spell_lead, spell_pieces, spell_class, spell_steps, comma, member_symbol}
use Rattle.php_ast.specs.Power.{binary_row, choice_row, instance_of_row}
use Rattle.php_ast.specs.expression.Proper.{power, ends, ends_bare, IsWord, IsMemberName, Proper, AreProperItems, IsProperLead, AreProperPieces, IsProperClass, AreProperSteps}
use Rattle.php_ast.specs.expression.Nesting.{nests, nests_items, nests_lead, nests_pieces, nests_class, nests_steps, comma_nests}
use Rattle.php_grammar.specs.expression.Role.{by_binary, by_instance_of, by_choice, by_assign, by_count, by_call, by_index, by_select, is_arrow}
use Rattle.php_grammar.specs.expression.Machine.{Nothing, Form, Holder, of_call, of_new, of_list, enclosed_open, items_open, index_open, computed_open, step_open, part_open, then_open, else_open, short_open, prefix_open, binary_open, instance_of_open, assign_open, yield_open, yield_value_open, OpenForms, expects, holds, past_items, past_value, past_exit, past_exit_paren, past_static, past_static_colons, past_template, past_arrow, past_new, past_class, past_step, least_power, ends_at, closed_with, holder_closing, is_array, after}
use Rattle.php_grammar.specs.expression.Depth.{depth, depths_read}
use Rattle.php_grammar.proofs.expression.Roles.{draw_symbol}
use Rattle.php_grammar.proofs.expression.Sound.{SoundList, SoundEnd, SoundLead}
use Rattle.php_grammar.proofs.expression.Fill.{binary_bound, edge_bounds, prefix_bound}
use Rattle.php_grammar.proofs.expression.Trees.{power_of_left, IsOpen, open_by_ends, operand_ends, Starts, starts}
use Rattle.php_grammar.proofs.expression.Steps.{head_continuation, head_strength, after_low, member_advances, static_advances, property_advances}
use Rattle.php_grammar.proofs.expression.ReadBack.{Follows, follows_draw, follows_paren, follows_bracket, follows_comma, follows_close, follows_shut, inside, ends_at_level, not_true, list_lead, list_skip, keyed_array, suffix_low, call_low, operand_near, operator_small}
use Rattle.php_grammar.proofs.expression.TraceSteps.{counts_on, suffix_count, operator_count, close_count, instance_of_count, prefix_count, yield_count, leaf_count, index_enters, exit_enters, then_enters, assigned_enters, value_enters, items_enter, yield_enters, exit_ends, class_ends, static_ends, bare_ends_it, behind_suffix}

-- ---- names

member_counts : (arrow : Arrow) (m : Member Nothing) (e : Form) (s : OpenForms) (w : List Symbol) → IsMemberName m
    → depths_read (past_arrow arrow e s) (member_symbol m ∷ w) ≡ depth s ∷ depths_read (holds (selected e arrow m) s) w
member_counts arrow m e s w h = counts_on (past_arrow arrow e s) (holds (selected e arrow m) s) (member_symbol m) w (depth s) (member_advances arrow m e s h) refl

static_counts : (m : Member Nothing) (s : OpenForms) (w : List Symbol) → IsMemberName m
    → depths_read (past_static_colons s) (member_symbol m ∷ w) ≡ depth s ∷ depths_read (holds (static_member tt m) s) w
static_counts m s w h = counts_on (past_static_colons s) (holds (static_member tt m) s) (member_symbol m) w (depth s) (static_advances m s h) refl

property_counts : (m : Member Nothing) (steps : Steps Nothing) (s : OpenForms) (w : List Symbol) → IsWord m
    → depths_read (past_step steps s) (member_symbol m ∷ w) ≡ depth s ∷ depths_read (past_class (class_found (step_property steps m)) s) w
property_counts m steps s w h =
    counts_on (past_step steps s) (past_class (class_found (step_property steps m)) s) (member_symbol m) w (depth s) (property_advances m steps s h) refl

-- ---- lists

none_counts : (h : Holder) (s : OpenForms) (w : List Symbol) → SoundEnd h none → depths_read (past_items h none s) (holder_closing h ∷ w) ≡ (1 + depth s) ∷ depths_read (after (closed_with h none) s) w
none_counts (of_call f) s w h = refl
none_counts (of_new class) s w h = refl
none_counts (of_list (array form.Brackets)) s w h = refl
none_counts (of_list (array form.Array)) s w h = refl
none_counts (of_list (array form.List)) s w h = refl
none_counts (of_list is_set) s w h = let e : true ≡ false = h.1 in cc

item_counts : (h : Holder) (items : Items Nothing) (lead : Lead Nothing) (e : Form) (s : OpenForms) (w : List Symbol)
    → depths_read (holds e (items_open h items lead ∷ s)) (holder_closing h ∷ w) ≡ (1 + depth s) ∷ depths_read (after (closed_with h (and items lead e)) s) w
item_counts (of_call f) items lead e s w = refl
item_counts (of_new class) items lead e s w = refl
item_counts (of_list (array form.Brackets)) items lead e s w = refl
item_counts (of_list (array form.Array)) items lead e s w = refl
item_counts (of_list (array form.List)) items lead e s w = refl
item_counts (of_list is_set) items lead e s w = refl

skip_counts : (h : Holder) (items : Items Nothing) (s : OpenForms) (w : List Symbol) → SoundList h (skip items) → SoundEnd h (skip items)
    → depths_read (past_items h items s) (holder_closing h ∷ w) ≡ (1 + depth s) ∷ depths_read (after (closed_with h (skip items)) s) w
skip_counts (of_call f) items s w l h = absurd l
skip_counts (of_new class) items s w l h = absurd l
skip_counts (of_list (array form)) none s w l h = let e : true ≡ false = h.1 in cc
skip_counts (of_list (array form.Brackets)) (and items lead e) s w l h = refl
skip_counts (of_list (array form.Brackets)) (skip items) s w l h = refl
skip_counts (of_list (array form.Array)) (and items lead e) s w l h = refl
skip_counts (of_list (array form.Array)) (skip items) s w l h = refl
skip_counts (of_list (array form.List)) (and items lead e) s w l h = refl
skip_counts (of_list (array form.List)) (skip items) s w l h = refl
skip_counts (of_list is_set) items s w l h = absurd l

missing_counts : (h : Holder) (items : Items Nothing) (s : OpenForms) (w : List Symbol) → is_array h ≡ true
    → depths_read (past_items h items s) (punct mark.Comma ∷ w) ≡ (1 + depth s) ∷ depths_read (past_items h (skip items) s) w
missing_counts (of_call f) items s w h = cc
missing_counts (of_new class) items s w h = cc
missing_counts (of_list (array form)) items s w h = refl
missing_counts (of_list is_set) items s w h = cc

reference_counts : (h : Holder) (items : Items Nothing) (s : OpenForms) (w : List Symbol) → SoundLead h reference
    → depths_read (past_items h items s) (punct mark.Ampersand ∷ w) ≡ (1 + depth s) ∷ depths_read (expects (items_open h items reference ∷ s)) w
reference_counts (of_call f) items s w h = absurd h
reference_counts (of_new class) items s w h = absurd h
reference_counts (of_list (array form)) items s w h = refl
reference_counts (of_list is_set) items s w h = absurd h

spread_counts : (h : Holder) (items : Items Nothing) (s : OpenForms) (w : List Symbol) → SoundLead h spread
    → depths_read (past_items h items s) (punct mark.Ellipsis ∷ w) ≡ (1 + depth s) ∷ depths_read (expects (items_open h items spread ∷ s)) w
spread_counts (of_call f) items s w h = refl
spread_counts (of_new class) items s w h = refl
spread_counts (of_list (array form)) items s w h = absurd h
spread_counts (of_list is_set) items s w h = absurd h

key_counts : (h : Holder) (items : Items Nothing) (k : Form) (s : OpenForms) (w : List Symbol) → is_array h ≡ true
    → depths_read (holds k (items_open h items plain ∷ s)) (punct mark.DoubleArrow ∷ w) ≡ (1 + depth s) ∷ depths_read (past_value h items k s) w
key_counts (of_call f) items k s w h = cc
key_counts (of_new class) items k s w h = cc
key_counts (of_list (array form)) items k s w h = refl
key_counts (of_list is_set) items k s w h = cc

class_counts : (class : Class Nothing) (s : OpenForms) (w : List Symbol) → depths_read (past_class class s) (punct mark.LeftParen ∷ w) ≡ depth s ∷ depths_read (past_items (of_new class) none s) w
class_counts (class_name spot text) s w =
    counts_on (past_class (class_name spot text) s) (past_items (of_new (class_name spot text)) none s) (punct mark.LeftParen) w (depth s) refl (behind_suffix by_call s (omega arith))
class_counts (class_static spot) s w =
    counts_on (past_class (class_static spot) s) (past_items (of_new (class_static spot)) none s) (punct mark.LeftParen) w (depth s) refl (behind_suffix by_call s (omega arith))
class_counts (class_found steps) s w =
    counts_on (past_class (class_found steps) s) (past_items (of_new (class_found steps)) none s) (punct mark.LeftParen) w (depth s) refl (behind_suffix by_call s (omega arith))

arrow_counts : (steps : Steps Nothing) (s : OpenForms) (w : List Symbol) → depths_read (past_class (class_found steps) s) (punct mark.Arrow ∷ w) ≡ depth s ∷ depths_read (past_step steps s) w
arrow_counts steps s w =
    counts_on (past_class (class_found steps) s) (past_step steps s) (punct mark.Arrow) w (depth s) refl (behind_suffix (by_select thin) s (omega arith))

bracket_counts : (steps : Steps Nothing) (s : OpenForms) (w : List Symbol) → depths_read (past_class (class_found steps) s) (punct mark.LeftBracket ∷ w) ≡ depth s ∷ depths_read (expects (step_open steps ∷ s)) w
bracket_counts steps s w =
    counts_on (past_class (class_found steps) s) (expects (step_open steps ∷ s)) (punct mark.LeftBracket) w (depth s) refl (behind_suffix by_index s (omega arith))

exit_paren_counts : (s : OpenForms) (w : List Symbol) → depths_read (past_exit s) (punct mark.LeftParen ∷ w) ≡ depth s ∷ depths_read (past_exit_paren s) w
exit_paren_counts s w =
    counts_on (past_exit s) (past_exit_paren s) (punct mark.LeftParen) w (depth s) refl (behind_suffix by_call s (omega arith))

static_colons_count : (s : OpenForms) (w : List Symbol) → depths_read (past_static s) (punct mark.DoubleColon ∷ w) ≡ depth s ∷ depths_read (past_static_colons s) w
static_colons_count [] w = refl
static_colons_count (instance_of_open l ∷ s) w =
    counts_on (past_static (instance_of_open l ∷ s)) (past_static_colons (instance_of_open l ∷ s)) (punct mark.DoubleColon) w (depth s) refl
    (behind_suffix (by_select colons) s (omega arith))
static_colons_count (f ∷ s) w = refl

-- ---- the whole

mutual
  pub spelling_depths : (e : Form) (s : OpenForms) (w : List Symbol) → Proper e → least_power s ≤ power e → Follows e s w → depths_read (expects s) (spell e w) ≡ nests e (depth s) (depths_read (after e s) w)
  spelling_depths (leaf spot l) s w p near h = leaf_count l s w
  spelling_depths (template spot pieces) s w p near h = ap (λ v. depth s ∷ v) (trace_pieces pieces s (symbol.unquote ∷ w) p)
  spelling_depths (enclosed spot parentheses e) s w p near h = ap (λ v. depth s ∷ v) (spelling_depths e (enclosed_open parentheses ∷ s) (punct mark.RightParen ∷ w) p (omega arith) (follows_paren (enclosed_open parentheses) s e w tt)
      ∙ ap (λ m. nests e (1 + depth s) (depths_read m (punct mark.RightParen ∷ w))) (after_low e (enclosed_open parentheses ∷ s) (omega arith)))
  spelling_depths (enclosed spot emptiness e) s w p near h = ap (λ v. depth s ∷ depth s ∷ v) (spelling_depths e (enclosed_open emptiness ∷ s) (punct mark.RightParen ∷ w) p (omega arith) (follows_paren (enclosed_open emptiness) s e w tt)
      ∙ ap (λ m. nests e (1 + depth s) (depths_read m (punct mark.RightParen ∷ w))) (after_low e (enclosed_open emptiness ∷ s) (omega arith)))
  spelling_depths (enclosed spot exiting e) s w p near h =
      ap (λ v. depth s ∷ v) (exit_paren_counts s (spell e (punct mark.RightParen ∷ w))
      ∙ ap (λ v. depth s ∷ v) (exit_enters s (spell e (punct mark.RightParen ∷ w)) (starts e (punct mark.RightParen ∷ w)) ∙ spelling_depths e (enclosed_open exiting ∷ s) (punct mark.RightParen ∷ w) p (omega arith) (follows_paren (enclosed_open exiting) s e w tt)
      ∙ ap (λ m. nests e (1 + depth s) (depths_read m (punct mark.RightParen ∷ w))) (after_low e (enclosed_open exiting ∷ s) (omega arith))))
  spelling_depths (listed spot (array form.Brackets) items) s w p near h = ap (λ v. depth s ∷ v) (trace_list (of_list (array form.Brackets)) items s w p.0.0 p.0 p.1)
  spelling_depths (listed spot (array form.Array) items) s w p near h = ap (λ v. depth s ∷ depth s ∷ v) (trace_list (of_list (array form.Array)) items s w p.0.0 p.0 p.1)
  spelling_depths (listed spot (array form.List) items) s w p near h = ap (λ v. depth s ∷ depth s ∷ v) (trace_list (of_list (array form.List)) items s w p.0.0 p.0 p.1)
  spelling_depths (listed spot is_set items) s w p near h = ap (λ v. depth s ∷ depth s ∷ v) (trace_list (of_list is_set) items s w p.0.0 p.0 p.1)
  spelling_depths (exit spot) s w p near h = ap (λ v. depth s ∷ v) (exit_ends s w h.low)
  spelling_depths (exit_empty spot) s w p near h = ap (λ v. depth s ∷ v) (exit_paren_counts s (punct mark.RightParen ∷ w))
  spelling_depths (static_member spot m) s w p near h =
      ap (λ v. depth s ∷ v) (static_colons_count s (member_symbol m ∷ w) ∙ ap (λ v. depth s ∷ v) (static_counts m s w p))
  spelling_depths (append e) s w p near h =
      spelling_depths e s (punct mark.LeftBracket ∷ punct mark.RightBracket ∷ w) p.1 (operand_near e s (omega arith)) (follows_draw by_index e s (punct mark.RightBracket ∷ w) (suffix_low e p.0))
      ∙ ap (nests e (depth s)) (suffix_count by_index e s (punct mark.RightBracket ∷ w) (omega arith) (suffix_low e p.0))
  spelling_depths (index e key) s w p near h =
      spelling_depths e s (punct mark.LeftBracket ∷ spell key (punct mark.RightBracket ∷ w)) p.1 (operand_near e s (omega arith))
      (follows_draw by_index e s (spell key (punct mark.RightBracket ∷ w)) (suffix_low e p.0))
      ∙ ap (nests e (depth s)) (suffix_count by_index e s (spell key (punct mark.RightBracket ∷ w)) (omega arith) (suffix_low e p.0)
      ∙ ap (λ v. depth s ∷ v) (index_enters e s (spell key (punct mark.RightBracket ∷ w)) (starts key (punct mark.RightBracket ∷ w))
      ∙ spelling_depths key (index_open e ∷ s) (punct mark.RightBracket ∷ w) p.2 (omega arith) (follows_bracket (index_open e) s key w tt)
      ∙ ap (λ m. nests key (1 + depth s) (depths_read m (punct mark.RightBracket ∷ w))) (after_low key (index_open e ∷ s) (omega arith))))
  spelling_depths (selected e arrow m) s w p near h =
      spelling_depths e s (draw_symbol (by_select arrow) ∷ member_symbol m ∷ w) p.1 (operand_near e s (omega arith)) (follows_draw (by_select arrow) e s (member_symbol m ∷ w) (suffix_low e p.0))
      ∙ ap (nests e (depth s)) (suffix_count (by_select arrow) e s (member_symbol m ∷ w) (omega arith) (suffix_low e p.0) ∙ ap (λ v. depth s ∷ v) (member_counts arrow m e s w p.2))
  spelling_depths (computed e key) s w p near h =
      spelling_depths e s (punct mark.Arrow ∷ punct mark.LeftBrace ∷ spell key (punct mark.RightBrace ∷ w)) p.1 (operand_near e s (omega arith))
      (follows_draw (by_select thin) e s (punct mark.LeftBrace ∷ spell key (punct mark.RightBrace ∷ w)) (suffix_low e p.0))
      ∙ ap (nests e (depth s)) (suffix_count (by_select thin) e s (punct mark.LeftBrace ∷ spell key (punct mark.RightBrace ∷ w)) (omega arith) (suffix_low e p.0)
      ∙ ap (λ v. depth s ∷ depth s ∷ v) (spelling_depths key (computed_open e ∷ s) (punct mark.RightBrace ∷ w) p.3 (omega arith)
      (follows_shut (punct mark.RightBrace) (computed_open e ∷ s) key w refl (λ a. cc) p.2)
      ∙ ap (λ m. nests key (1 + depth s) (depths_read m (punct mark.RightBrace ∷ w))) (after_low key (computed_open e ∷ s) (omega arith))))
  spelling_depths (call f items) s w p near h =
      spelling_depths f s (punct mark.LeftParen ∷ spell_items items (punct mark.RightParen ∷ w)) p.1 (operand_near f s (omega arith))
      (follows_draw by_call f s (spell_items items (punct mark.RightParen ∷ w)) (call_low f p.0))
      ∙ ap (nests f (depth s)) (suffix_count by_call f s (spell_items items (punct mark.RightParen ∷ w)) (omega arith) (call_low f p.0)
      ∙ ap (λ v. depth s ∷ v) (trace_list (of_call f) items s w p.2 p.2 p.3))
  spelling_depths (new spot class) s w p near h =
      ap (λ v. depth s ∷ v) (trace_class class s w p ∙ ap (nests_class class (depth s)) (class_ends class s w h.low))
  spelling_depths (new_with spot class items) s w p near h =
      ap (λ v. depth s ∷ v) (trace_class class s (punct mark.LeftParen ∷ spell_items items (punct mark.RightParen ∷ w)) p.0
      ∙ ap (nests_class class (depth s)) (class_counts class s (spell_items items (punct mark.RightParen ∷ w))
      ∙ ap (λ v. depth s ∷ v) (trace_list (of_new class) items s w p.1 p.1 p.2)))
  spelling_depths (prefix spot op e) s w p near h =
      let low : head_strength w < ends e = omega (arith, h.low) in
      let short : head_strength w < ends_at (is_arrow (head_continuation w)) (prefix_open op) = omega (arith, h.low, ends_at_level (is_arrow (head_continuation w)) (prefix_open op) refl) in
      prefix_count op s (spell e w) near
      ∙ ap (λ v. depth s ∷ v) (spelling_depths e (prefix_open op ∷ s) w p.1 p.0 (inside (prefix_open op) s e w (omega arith) short low h.arrow (λ b. b) h)
      ∙ ap (nests e (1 + depth s)) (close_count (prefix_open op) s e w (omega (arith, prefix_bound op)) short))
  spelling_depths (count e way) s w p near h =
      spelling_depths e s (draw_symbol (by_count way) ∷ w) p.1 (operand_near e s (operand_ends e p.0)) (follows_draw (by_count way) e s w (operand_ends e p.0))
      ∙ ap (nests e (depth s)) (operator_count (by_count way) e s w (omega arith) near (operand_ends e p.0))
  spelling_depths (binary op l r) s w p near h =
      let low : head_strength w < ends r = omega (arith, h.low) in
      let short : head_strength w < ends_at (is_arrow (head_continuation w)) (binary_open op l) =
      omega (arith, h.low, edge_bounds op, ends_at_level (is_arrow (head_continuation w)) (binary_open op l) refl) in
      spelling_depths l s (draw_symbol (by_binary op) ∷ spell r w) p.2 (omega (arith, power_of_left l (binary_row op).power (binary_bound op).0 p.0))
      (follows_draw (by_binary op) l s (spell r w) p.0)
      ∙ ap (nests l (depth s)) (operator_count (by_binary op) l s (spell r w) (operator_small op) near p.0
      ∙ ap (λ v. depth s ∷ v) (spelling_depths r (binary_open op l ∷ s) w p.3 p.1 (inside (binary_open op l) s r w (omega (arith, edge_bounds op)) short low h.arrow (λ b. b) h)
      ∙ ap (nests r (depth (binary_open op l ∷ s))) (close_count (binary_open op l) s r w (omega (arith, binary_bound op)) short)))
  spelling_depths (instance_of l r) s w p near h =
      let opened_by : IsOpen r = open_by_ends r (operand_ends r p.1) in
      let low : head_strength w < ends r = omega (arith, h.low, opened_by.ends_is) in
      let short : head_strength w < ends_at (is_arrow (head_continuation w)) (instance_of_open l) =
      omega (arith, h.low, ends_at_level (is_arrow (head_continuation w)) (instance_of_open l) refl) in
      spelling_depths l s (draw_symbol by_instance_of ∷ spell r w) p.3 (omega (arith, power_of_left l instance_of_row.power (omega arith) p.0)) (follows_draw by_instance_of l s (spell r w) p.0)
      ∙ ap (nests l (depth s)) (operator_count by_instance_of l s (spell r w) (omega arith) near p.0
      ∙ ap (λ v. depth s ∷ v) (spelling_depths r (instance_of_open l ∷ s) w p.4 (omega (arith, opened_by.power_is))
      (record { low = low; arrow = λ a. opened_by.no_arrow; bare = λ b. let e : ends_bare r ≡ false = opened_by.not_bare in cc })
      ∙ ap (nests r (depth s)) (instance_of_count l r s w p.2 short)))
  spelling_depths (instance_of_static l spot) s w p near h =
      spelling_depths l s (draw_symbol by_instance_of ∷ keyword word.Static ∷ w) p.1 (omega (arith, power_of_left l instance_of_row.power (omega arith) p.0)) (follows_draw by_instance_of l s (keyword word.Static ∷ w) p.0)
      ∙ ap (nests l (depth s)) (operator_count by_instance_of l s (keyword word.Static ∷ w) (omega arith) near p.0
      ∙ ap (λ v. depth s ∷ depth s ∷ v) (static_ends l s w (omega (arith, h.low))))
  spelling_depths (choice c a b) s w p near h =
      let low : head_strength w < ends b = omega (arith, h.low) in
      let short : head_strength w < ends_at (is_arrow (head_continuation w)) (else_open c a) = omega (arith, h.low, ends_at_level (is_arrow (head_continuation w)) (else_open c a) refl) in
      spelling_depths c s (punct mark.Question ∷ spell a (punct mark.Colon ∷ spell b w)) p.3 (omega (arith, power_of_left c choice_row.power (omega arith) p.0))
      (follows_draw by_choice c s (spell a (punct mark.Colon ∷ spell b w)) p.0)
      ∙ ap (nests c (depth s)) (operator_count by_choice c s (spell a (punct mark.Colon ∷ spell b w)) (omega arith) near p.0
      ∙ ap (λ v. depth s ∷ v) (then_enters c s (spell a (punct mark.Colon ∷ spell b w)) (starts a (punct mark.Colon ∷ spell b w))
      ∙ spelling_depths a (then_open c ∷ s) (punct mark.Colon ∷ spell b w) p.4 (omega arith) (follows_shut (punct mark.Colon) (then_open c ∷ s) a (spell b w) refl (λ x. cc) p.1)
      ∙ ap (nests a (1 + depth s)) (ap (λ m. depths_read m (punct mark.Colon ∷ spell b w)) (after_low a (then_open c ∷ s) (omega arith))
      ∙ ap (λ v. (1 + depth s) ∷ v) (spelling_depths b (else_open c a ∷ s) w p.5 p.2 (inside (else_open c a) s b w (omega arith) short low h.arrow (λ x. x) h)
      ∙ ap (nests b (depth s)) (close_count (else_open c a) s b w (omega arith) short)))))
  spelling_depths (short_choice c b) s w p near h =
      let low : head_strength w < ends b = omega (arith, h.low) in
      let short : head_strength w < ends_at (is_arrow (head_continuation w)) (short_open c) = omega (arith, h.low, ends_at_level (is_arrow (head_continuation w)) (short_open c) refl) in
      spelling_depths c s (punct mark.Question ∷ punct mark.Colon ∷ spell b w) p.2 (omega (arith, power_of_left c choice_row.power (omega arith) p.0))
      (follows_draw by_choice c s (punct mark.Colon ∷ spell b w) p.0)
      ∙ ap (nests c (depth s)) (operator_count by_choice c s (punct mark.Colon ∷ spell b w) (omega arith) near p.0
      ∙ ap (λ v. depth s ∷ depth s ∷ v) (spelling_depths b (short_open c ∷ s) w p.3 p.1 (inside (short_open c) s b w (omega arith) short low h.arrow (λ x. x) h)
      ∙ ap (nests b (depth s)) (close_count (short_open c) s b w (omega arith) short)))
  spelling_depths (assign (by_value op) l r) s w p near h =
      let low : head_strength w < ends r = omega (arith, h.low) in
      let short : head_strength w < ends_at (is_arrow (head_continuation w)) (assign_open (by_value op) l) =
      omega (arith, h.low, ends_at_level (is_arrow (head_continuation w)) (assign_open (by_value op) l) refl) in
      spelling_depths l s (draw_symbol (by_assign op) ∷ spell r w) p.2 (operand_near l s (operand_ends l p.0)) (follows_draw (by_assign op) l s (spell r w) (operand_ends l p.0))
      ∙ ap (nests l (depth s)) (operator_count (by_assign op) l s (spell r w) (omega arith) near (operand_ends l p.0)
      ∙ ap (λ v. depth s ∷ v) (assigned_enters op l s (spell r w) (starts r w)
      ∙ spelling_depths r (assign_open (by_value op) l ∷ s) w p.3 p.1 (inside (assign_open (by_value op) l) s r w (omega arith) short low h.arrow (λ x. x) h)
      ∙ ap (nests r (1 + depth s)) (close_count (assign_open (by_value op) l) s r w (omega arith) short)))
  spelling_depths (assign by_reference l r) s w p near h =
      let low : head_strength w < ends r = omega (arith, h.low) in
      let short : head_strength w < ends_at (is_arrow (head_continuation w)) (assign_open by_reference l) =
      omega (arith, h.low, ends_at_level (is_arrow (head_continuation w)) (assign_open by_reference l) refl) in
      spelling_depths l s (draw_symbol (by_assign setting.Plain) ∷ punct mark.Ampersand ∷ spell r w) p.2 (operand_near l s (operand_ends l p.0))
      (follows_draw (by_assign setting.Plain) l s (punct mark.Ampersand ∷ spell r w) (operand_ends l p.0))
      ∙ ap (nests l (depth s)) (operator_count (by_assign setting.Plain) l s (punct mark.Ampersand ∷ spell r w) (omega arith) near (operand_ends l p.0)
      ∙ ap (λ v. depth s ∷ depth s ∷ v) (spelling_depths r (assign_open by_reference l ∷ s) w p.3 p.1 (inside (assign_open by_reference l) s r w (omega arith) short low h.arrow (λ x. x) h)
      ∙ ap (nests r (1 + depth s)) (close_count (assign_open by_reference l) s r w (omega arith) short)))
  spelling_depths (yield_nothing spot) s w p near h = yield_count s w near ∙ ap (λ v. depth s ∷ v) (bare_ends_it s w (h.bare refl).ends_it)
  spelling_depths (yield_value spot v) s w p near h =
      let arrow : is_arrow (head_continuation w) ≡ false = not_true (is_arrow (head_continuation w)) h.arrow in
      let low : head_strength w < ends v = omega (arith, h.low) in
      let short : head_strength w < ends_at (is_arrow (head_continuation w)) yield_open = subst (λ b. head_strength w < ends_at b yield_open) (sym arrow) (omega (arith, h.low)) in
      yield_count s (spell v w) near ∙ ap (λ x. depth s ∷ x) (yield_enters s (spell v w) (starts v w)
      ∙ spelling_depths v (yield_open ∷ s) w p.1 p.0 (inside yield_open s v w (omega arith) short low (λ a. cc) (λ x. x) h)
      ∙ ap (nests v (1 + depth s)) (close_count yield_open s v w (omega arith) short))
  spelling_depths (yield_pair spot k v) s w p near h =
      let low : head_strength w < ends v = omega (arith, h.low) in
      let short : head_strength w < ends_at (is_arrow (head_continuation w)) (yield_value_open k) = omega (arith, h.low, ends_at_level (is_arrow (head_continuation w)) (yield_value_open k) refl) in
      yield_count s (spell k (punct mark.DoubleArrow ∷ spell v w)) near
      ∙ ap (λ x. depth s ∷ x) (yield_enters s (spell k (punct mark.DoubleArrow ∷ spell v w)) (starts k (punct mark.DoubleArrow ∷ spell v w))
      ∙ spelling_depths k (yield_open ∷ s) (punct mark.DoubleArrow ∷ spell v w) p.3 p.0 (follows_shut (punct mark.DoubleArrow) (yield_open ∷ s) k (spell v w) refl (λ a. p.1.0) p.1.1)
      ∙ ap (nests k (1 + depth s)) (ap (λ m. depths_read m (punct mark.DoubleArrow ∷ spell v w)) (after_low k (yield_open ∷ s) (omega arith))
      ∙ ap (λ x. (1 + depth s) ∷ x) (spelling_depths v (yield_value_open k ∷ s) w p.4 p.2 (inside (yield_value_open k) s v w (omega arith) short low h.arrow (λ x. x) h)
      ∙ ap (nests v (1 + depth s)) (close_count (yield_value_open k) s v w (omega arith) short))))

  trace_list : (h : Holder) (items : Items Nothing) (s : OpenForms) (w : List Symbol) → SoundList h items → SoundEnd h items → AreProperItems items
      → depths_read (past_items h none s) (spell_items items (holder_closing h ∷ w)) ≡ nests_items items (1 + depth s) ((1 + depth s) ∷ depths_read (after (closed_with h items) s) w)
  trace_list h none s w l end p = none_counts h s w end
  trace_list h (and items lead e) s w l end p =
      trace_items h items s (spell_lead lead (spell e (holder_closing h ∷ w))) (list_lead h items lead e l).0 p.0
      ∙ ap (λ v. nests_items items (1 + depth s) (comma_nests items (1 + depth s) v))
      (trace_lead h items lead s (spell e (holder_closing h ∷ w)) (list_lead h items lead e l).1 p.1 (starts e (holder_closing h ∷ w))
      ∙ ap (nests_lead lead (1 + depth s)) (spelling_depths e (items_open h items lead ∷ s) (holder_closing h ∷ w) p.2 (omega arith) (follows_close h items lead s e w)
      ∙ ap (nests e (1 + depth s)) (ap (λ m. depths_read m (holder_closing h ∷ w)) (after_low e (items_open h items lead ∷ s) (omega arith)) ∙ item_counts h items lead e s w)))
  trace_list h (skip items) s w l end p =
      trace_items h items s (holder_closing h ∷ w) (list_skip h items l).1 p
      ∙ ap (λ v. nests_items items (1 + depth s) (comma_nests items (1 + depth s) v)) (skip_counts h items s w l end)

  trace_items : (h : Holder) (items : Items Nothing) (s : OpenForms) (w : List Symbol) → SoundList h items → AreProperItems items
      → depths_read (past_items h none s) (spell_items items (comma items w)) ≡ nests_items items (1 + depth s) (comma_nests items (1 + depth s) (depths_read (past_items h items s) w))
  trace_items h none s w l p = refl
  trace_items h (and items lead e) s w l p =
      trace_items h items s (spell_lead lead (spell e (punct mark.Comma ∷ w))) (list_lead h items lead e l).0 p.0
      ∙ ap (λ v. nests_items items (1 + depth s) (comma_nests items (1 + depth s) v))
      (trace_lead h items lead s (spell e (punct mark.Comma ∷ w)) (list_lead h items lead e l).1 p.1 (starts e (punct mark.Comma ∷ w))
      ∙ ap (nests_lead lead (1 + depth s)) (spelling_depths e (items_open h items lead ∷ s) (punct mark.Comma ∷ w) p.2 (omega arith) (follows_comma h items lead s e w)
      ∙ ap (λ m. nests e (1 + depth s) (depths_read m (punct mark.Comma ∷ w))) (after_low e (items_open h items lead ∷ s) (omega arith))))
  trace_items h (skip items) s w l p =
      trace_items h items s (punct mark.Comma ∷ w) (list_skip h items l).1 p
      ∙ ap (λ v. nests_items items (1 + depth s) (comma_nests items (1 + depth s) v)) (missing_counts h items s w (list_skip h items l).0)

  trace_lead : (h : Holder) (items : Items Nothing) (lead : Lead Nothing) (s : OpenForms) (v : List Symbol) → SoundLead h lead → IsProperLead lead → Starts v
      → depths_read (past_items h items s) (spell_lead lead v) ≡ nests_lead lead (1 + depth s) (depths_read (expects (items_open h items lead ∷ s)) v)
  trace_lead h items plain s v l p g = items_enter h items s v g
  trace_lead h items reference s v l p g = reference_counts h items s v l
  trace_lead h items spread s v l p g = spread_counts h items s v l
  trace_lead h items (keyed k) s v l p g =
      items_enter h items s (spell k (punct mark.DoubleArrow ∷ v)) (starts k (punct mark.DoubleArrow ∷ v))
      ∙ spelling_depths k (items_open h items plain ∷ s) (punct mark.DoubleArrow ∷ v) p.1 (omega arith) (follows_shut (punct mark.DoubleArrow) (items_open h items plain ∷ s) k v refl (λ a. p.0.0) p.0.1)
      ∙ ap (nests k (1 + depth s)) (ap (λ m. depths_read m (punct mark.DoubleArrow ∷ v)) (after_low k (items_open h items plain ∷ s) (omega arith))
      ∙ key_counts h items k s v (keyed_array h k (inl l)) ∙ ap (λ x. (1 + depth s) ∷ x) (value_enters h items k s v g))
  trace_lead h items (keyed_reference k) s v l p g =
      items_enter h items s (spell k (punct mark.DoubleArrow ∷ punct mark.Ampersand ∷ v)) (starts k (punct mark.DoubleArrow ∷ punct mark.Ampersand ∷ v))
      ∙ spelling_depths k (items_open h items plain ∷ s) (punct mark.DoubleArrow ∷ punct mark.Ampersand ∷ v) p.1 (omega arith)
      (follows_shut (punct mark.DoubleArrow) (items_open h items plain ∷ s) k (punct mark.Ampersand ∷ v) refl (λ a. p.0.0) p.0.1)
      ∙ ap (nests k (1 + depth s)) (ap (λ m. depths_read m (punct mark.DoubleArrow ∷ punct mark.Ampersand ∷ v)) (after_low k (items_open h items plain ∷ s) (omega arith))
      ∙ key_counts h items k s (punct mark.Ampersand ∷ v) (keyed_array h k (inr l)))

  trace_pieces : (pieces : Pieces Nothing) (s : OpenForms) (w : List Symbol) → AreProperPieces pieces
      → depths_read (past_template no_piece s) (spell_pieces pieces w) ≡ nests_pieces pieces (depth s) (depths_read (past_template pieces s) w)
  trace_pieces no_piece s w p = refl
  trace_pieces (bytes pieces text) s w p = trace_pieces pieces s (symbol.piece text ∷ w) p
  trace_pieces (value pieces e) s w p =
      trace_pieces pieces s (symbol.part ∷ spell e (symbol.end_part ∷ w)) p.0
      ∙ ap (λ v. nests_pieces pieces (depth s) (depth s ∷ v)) (spelling_depths e (part_open pieces ∷ s) (symbol.end_part ∷ w) p.2 (omega arith)
      (follows_shut symbol.end_part (part_open pieces ∷ s) e w refl (λ a. cc) p.1)
      ∙ ap (λ m. nests e (1 + depth s) (depths_read m (symbol.end_part ∷ w))) (after_low e (part_open pieces ∷ s) (omega arith)))

  trace_class : (class : Class Nothing) (s : OpenForms) (w : List Symbol) → IsProperClass class → depths_read (past_new s) (spell_class class w) ≡ nests_class class (depth s) (depths_read (past_class class s) w)
  trace_class (class_name spot text) s w p = refl
  trace_class (class_static spot) s w p = refl
  trace_class (class_found steps) s w p = trace_steps steps s w p

  trace_steps : (steps : Steps Nothing) (s : OpenForms) (w : List Symbol) → AreProperSteps steps
      → depths_read (past_new s) (spell_steps steps w) ≡ nests_steps steps (depth s) (depths_read (past_class (class_found steps) s) w)
  trace_steps (from spot text) s w p = refl
  trace_steps (step_property steps m) s w p =
      trace_steps steps s (punct mark.Arrow ∷ member_symbol m ∷ w) p.0
      ∙ ap (nests_steps steps (depth s)) (arrow_counts steps s (member_symbol m ∷ w) ∙ ap (λ v. depth s ∷ v) (property_counts m steps s w p.1))
  trace_steps (step_index steps e) s w p =
      trace_steps steps s (punct mark.LeftBracket ∷ spell e (punct mark.RightBracket ∷ w)) p.0
      ∙ ap (nests_steps steps (depth s)) (bracket_counts steps s (spell e (punct mark.RightBracket ∷ w))
      ∙ ap (λ v. depth s ∷ v) (spelling_depths e (step_open steps ∷ s) (punct mark.RightBracket ∷ w) p.1 (omega arith) (follows_bracket (step_open steps) s e w tt)
      ∙ ap (λ m. nests e (1 + depth s) (depths_read m (punct mark.RightBracket ∷ w))) (after_low e (step_open steps ∷ s) (omega arith))))
