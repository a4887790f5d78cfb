-- A spelling stands in front of what follows, whatever that is.
use Rattle.std.proofs.Common.{◌≡◌, List, ◌∷◌, ◌++◌, refl, ◌∙◌, ap}
use Rattle.php_token.specs.declared.kind.Keyword.TheVariants as word
use Rattle.php_token.specs.declared.kind.Punct.TheVariants as mark
use Rattle.php_ast.specs.declared.operator.ArrayForm.TheVariants as form
use Rattle.php_ast.specs.Symbol as symbol
use Rattle.php_ast.specs.Symbol.{Symbol, keyword, punct}
use Rattle.php_ast.specs.expression.Tree.{Enclosure, parentheses, emptiness, exiting, Listing, array, is_set, Setting, by_value, by_reference}
use Rattle.php_ast.specs.expression.Tree.{Tree, leaf, template, enclosed, listed, exit, exit_empty, static_member, append, index, selected, computed, call, new, new_with, prefix, count, binary, instance_of, instance_of_static, choice, short_choice, assign, yield_nothing, yield_value, yield_pair}
use Rattle.php_ast.specs.expression.Tree.{Items, none, and, skip, Lead, plain, reference, spread, keyed, keyed_reference, Pieces, no_piece, bytes, value, Class, class_name, class_static, class_found, Steps, from, step_property, step_index}
use Rattle.php_ast.specs.expression.Spelling.{spell, spell_items, spell_lead, spell_pieces, spell_class, spell_steps, comma, opening, list_opening, list_closing, setting_symbols, arrow_symbol, member_symbol}
use Rattle.php_ast.specs.Operators.{binary_symbol, prefix_symbol, count_symbol}

opening_append : (enclosure : Enclosure) (v w : List Symbol) → opening enclosure (v ++ w) ≡ opening enclosure v ++ w
opening_append parentheses v w = refl
opening_append emptiness v w = refl
opening_append exiting v w = refl

list_opening_append : (listing : Listing) (v w : List Symbol) → list_opening listing (v ++ w) ≡ list_opening listing v ++ w
list_opening_append (array form.Brackets) v w = refl
list_opening_append (array form.Array) v w = refl
list_opening_append (array form.List) v w = refl
list_opening_append is_set v w = refl

setting_append : (how : Setting) (v w : List Symbol) → setting_symbols how (v ++ w) ≡ setting_symbols how v ++ w
setting_append (by_value op) v w = refl
setting_append by_reference v w = refl

comma_append : {S : Type 0} (items : Items S) (v w : List Symbol) → comma items (v ++ w) ≡ comma items v ++ w
comma_append none v w = refl
comma_append (and items lead e) v w = refl
comma_append (skip items) v w = refl

mutual
  pub spell_append : {S : Type 0} (e : Tree S) (v w : List Symbol) → spell e (v ++ w) ≡ spell e v ++ w
  spell_append (leaf spot l) v w = refl
  spell_append (template spot pieces) v w = ap (λ u. symbol.quote ∷ u) (pieces_append pieces (symbol.unquote ∷ v) w)
  spell_append (enclosed spot enclosure e) v w =
      ap (opening enclosure) (spell_append e (punct mark.RightParen ∷ v) w) ∙ opening_append enclosure (spell e (punct mark.RightParen ∷ v)) w
  spell_append (listed spot listing items) v w =
      ap (list_opening listing) (items_append items (list_closing listing ∷ v) w) ∙ list_opening_append listing (spell_items items (list_closing listing ∷ v)) w
  spell_append (exit spot) v w = refl
  spell_append (exit_empty spot) v w = refl
  spell_append (static_member spot member) v w = refl
  spell_append (append e) v w = spell_append e (punct mark.LeftBracket ∷ punct mark.RightBracket ∷ v) w
  spell_append (index e key) v w =
      ap (λ u. spell e (punct mark.LeftBracket ∷ u)) (spell_append key (punct mark.RightBracket ∷ v) w)
      ∙ spell_append e (punct mark.LeftBracket ∷ spell key (punct mark.RightBracket ∷ v)) w
  spell_append (selected e arrow member) v w = spell_append e (arrow_symbol arrow ∷ member_symbol member ∷ v) w
  spell_append (computed e key) v w =
      ap (λ u. spell e (punct mark.Arrow ∷ punct mark.LeftBrace ∷ u)) (spell_append key (punct mark.RightBrace ∷ v) w)
      ∙ spell_append e (punct mark.Arrow ∷ punct mark.LeftBrace ∷ spell key (punct mark.RightBrace ∷ v)) w
  spell_append (call f items) v w =
      ap (λ u. spell f (punct mark.LeftParen ∷ u)) (items_append items (punct mark.RightParen ∷ v) w)
      ∙ spell_append f (punct mark.LeftParen ∷ spell_items items (punct mark.RightParen ∷ v)) w
  spell_append (new spot class) v w = ap (λ u. keyword word.New ∷ u) (class_append class v w)
  spell_append (new_with spot class items) v w =
      ap (λ u. keyword word.New ∷ spell_class class (punct mark.LeftParen ∷ u)) (items_append items (punct mark.RightParen ∷ v) w)
      ∙ ap (λ u. keyword word.New ∷ u) (class_append class (punct mark.LeftParen ∷ spell_items items (punct mark.RightParen ∷ v)) w)
  spell_append (prefix spot op e) v w = ap (λ u. prefix_symbol op ∷ u) (spell_append e v w)
  spell_append (count e way) v w = spell_append e (count_symbol way ∷ v) w
  spell_append (binary op l r) v w = ap (λ u. spell l (binary_symbol op ∷ u)) (spell_append r v w) ∙ spell_append l (binary_symbol op ∷ spell r v) w
  spell_append (instance_of l r) v w = ap (λ u. spell l (keyword word.InstanceOf ∷ u)) (spell_append r v w) ∙ spell_append l (keyword word.InstanceOf ∷ spell r v) w
  spell_append (instance_of_static l spot) v w = spell_append l (keyword word.InstanceOf ∷ keyword word.Static ∷ v) w
  spell_append (choice c a b) v w =
      ap (λ u. spell c (punct mark.Question ∷ spell a (punct mark.Colon ∷ u))) (spell_append b v w)
      ∙ ap (λ u. spell c (punct mark.Question ∷ u)) (spell_append a (punct mark.Colon ∷ spell b v) w)
      ∙ spell_append c (punct mark.Question ∷ spell a (punct mark.Colon ∷ spell b v)) w
  spell_append (short_choice c b) v w =
      ap (λ u. spell c (punct mark.Question ∷ punct mark.Colon ∷ u)) (spell_append b v w) ∙ spell_append c (punct mark.Question ∷ punct mark.Colon ∷ spell b v) w
  spell_append (assign how l r) v w =
      ap (λ u. spell l (setting_symbols how u)) (spell_append r v w) ∙ ap (spell l) (setting_append how (spell r v) w) ∙ spell_append l (setting_symbols how (spell r v)) w
  spell_append (yield_nothing spot) v w = refl
  spell_append (yield_value spot e) v w = ap (λ u. keyword word.Yield ∷ u) (spell_append e v w)
  spell_append (yield_pair spot k e) v w =
      ap (λ u. keyword word.Yield ∷ spell k (punct mark.DoubleArrow ∷ u)) (spell_append e v w)
      ∙ ap (λ u. keyword word.Yield ∷ u) (spell_append k (punct mark.DoubleArrow ∷ spell e v) w)

  items_append : {S : Type 0} (items : Items S) (v w : List Symbol) → spell_items items (v ++ w) ≡ spell_items items v ++ w
  items_append none v w = refl
  items_append (and items lead e) v w =
      ap (λ u. spell_items items (comma items (spell_lead lead u))) (spell_append e v w)
      ∙ ap (λ u. spell_items items (comma items u)) (lead_append lead (spell e v) w)
      ∙ ap (spell_items items) (comma_append items (spell_lead lead (spell e v)) w)
      ∙ items_append items (comma items (spell_lead lead (spell e v))) w
  items_append (skip items) v w = ap (spell_items items) (comma_append items v w) ∙ items_append items (comma items v) w

  lead_append : {S : Type 0} (lead : Lead S) (v w : List Symbol) → spell_lead lead (v ++ w) ≡ spell_lead lead v ++ w
  lead_append plain v w = refl
  lead_append reference v w = refl
  lead_append spread v w = refl
  lead_append (keyed k) v w = spell_append k (punct mark.DoubleArrow ∷ v) w
  lead_append (keyed_reference k) v w = spell_append k (punct mark.DoubleArrow ∷ punct mark.Ampersand ∷ v) w

  pieces_append : {S : Type 0} (pieces : Pieces S) (v w : List Symbol) → spell_pieces pieces (v ++ w) ≡ spell_pieces pieces v ++ w
  pieces_append no_piece v w = refl
  pieces_append (bytes pieces text) v w = pieces_append pieces (symbol.piece text ∷ v) w
  pieces_append (value pieces e) v w =
      ap (λ u. spell_pieces pieces (symbol.part ∷ u)) (spell_append e (symbol.end_part ∷ v) w) ∙ pieces_append pieces (symbol.part ∷ spell e (symbol.end_part ∷ v)) w

  class_append : {S : Type 0} (class : Class S) (v w : List Symbol) → spell_class class (v ++ w) ≡ spell_class class v ++ w
  class_append (class_name spot text) v w = refl
  class_append (class_static spot) v w = refl
  class_append (class_found steps) v w = steps_append steps v w

  steps_append : {S : Type 0} (steps : Steps S) (v w : List Symbol) → spell_steps steps (v ++ w) ≡ spell_steps steps v ++ w
  steps_append (from spot text) v w = refl
  steps_append (step_property steps m) v w = steps_append steps (punct mark.Arrow ∷ member_symbol m ∷ v) w
  steps_append (step_index steps e) v w =
      ap (λ u. spell_steps steps (punct mark.LeftBracket ∷ u)) (spell_append e (punct mark.RightBracket ∷ v) w)
      ∙ steps_append steps (punct mark.LeftBracket ∷ spell e (punct mark.RightBracket ∷ v)) w
