-- The sizes by which notes are placed are the lengths of spellings.
use Rattle.std.proofs.Common.{◌≡◌, ◌+◌, List, ◌∷◌, length, arith}
use Rattle.php_token.specs.declared.kind.Keyword.TheVariants as word
use Rattle.php_token.specs.declared.kind.Punct.TheVariants as mark
use Rattle.php_ast.specs.declared.operator.ArrayForm.TheVariants as form
use Rattle.php_ast.specs.Symbol as symbol
use Rattle.php_ast.specs.Symbol.{Symbol, keyword, punct}
use Rattle.php_ast.specs.expression.Tree.{Enclosure, parentheses, emptiness, exiting, Listing, array, is_set, Setting, by_value, by_reference}
use Rattle.php_ast.specs.expression.Tree.{Tree, leaf, template, enclosed, listed, exit, exit_empty, static_member, append, index, selected, computed, call, new, new_with, prefix, count, binary, instance_of, instance_of_static, choice, short_choice, assign, yield_nothing, yield_value, yield_pair}
use Rattle.php_ast.specs.expression.Tree.{Items, none, and, skip, Lead, plain, reference, spread, keyed, keyed_reference, Pieces, no_piece, bytes, value, Class, class_name, class_static, class_found, Steps, from, step_property, step_index}
use Rattle.php_ast.specs.expression.Spelling.{spell, spell_items, spell_lead, spell_pieces, spell_class, spell_steps, comma, opening, list_opening, list_closing, setting_symbols, arrow_symbol, member_symbol}
use Rattle.php_ast.specs.Operators.{binary_symbol, count_symbol}
use Rattle.php_ast.specs.expression.Placed.{opening_size, list_opening_size, setting_size, comma_size, size, size_items, size_lead, size_pieces, size_class, size_steps}

opening_length : (enclosure : Enclosure) (w : List Symbol) → length (opening enclosure w) ≡ opening_size enclosure + length w
opening_length parentheses w = omega arith
opening_length emptiness w = omega arith
opening_length exiting w = omega arith

list_opening_length : (listing : Listing) (w : List Symbol) → length (list_opening listing w) ≡ list_opening_size listing + length w
list_opening_length (array form.Brackets) w = omega arith
list_opening_length (array form.Array) w = omega arith
list_opening_length (array form.List) w = omega arith
list_opening_length is_set w = omega arith

setting_length : (how : Setting) (w : List Symbol) → length (setting_symbols how w) ≡ setting_size how + length w
setting_length (by_value op) w = omega arith
setting_length by_reference w = omega arith

comma_length : {S : Type 0} (items : Items S) (w : List Symbol) → length (comma items w) ≡ comma_size items + length w
comma_length none w = omega arith
comma_length (and items lead e) w = omega arith
comma_length (skip items) w = omega arith

mutual
  pub spell_length : {S : Type 0} (e : Tree S) (w : List Symbol) → length (spell e w) ≡ size e + length w
  spell_length (leaf spot l) w = omega arith
  spell_length (template spot pieces) w = omega (arith, pieces_length pieces (symbol.unquote ∷ w))
  spell_length (enclosed spot enclosure e) w =
      omega (arith, opening_length enclosure (spell e (punct mark.RightParen ∷ w)), spell_length e (punct mark.RightParen ∷ w))
  spell_length (listed spot listing items) w =
      omega (arith, list_opening_length listing (spell_items items (list_closing listing ∷ w)), items_length items (list_closing listing ∷ w))
  spell_length (exit spot) w = omega arith
  spell_length (exit_empty spot) w = omega arith
  spell_length (static_member spot m) w = omega arith
  spell_length (append e) w = omega (arith, spell_length e (punct mark.LeftBracket ∷ punct mark.RightBracket ∷ w))
  spell_length (index e key) w =
      omega (arith, spell_length e (punct mark.LeftBracket ∷ spell key (punct mark.RightBracket ∷ w)), spell_length key (punct mark.RightBracket ∷ w))
  spell_length (selected e arrow m) w = omega (arith, spell_length e (arrow_symbol arrow ∷ member_symbol m ∷ w))
  spell_length (computed e key) w =
      omega (arith, spell_length e (punct mark.Arrow ∷ punct mark.LeftBrace ∷ spell key (punct mark.RightBrace ∷ w)), spell_length key (punct mark.RightBrace ∷ w))
  spell_length (call f items) w =
      omega (arith, spell_length f (punct mark.LeftParen ∷ spell_items items (punct mark.RightParen ∷ w)), items_length items (punct mark.RightParen ∷ w))
  spell_length (new spot class) w = omega (arith, class_length class w)
  spell_length (new_with spot class items) w =
      omega (arith, class_length class (punct mark.LeftParen ∷ spell_items items (punct mark.RightParen ∷ w)), items_length items (punct mark.RightParen ∷ w))
  spell_length (prefix spot op e) w = omega (arith, spell_length e w)
  spell_length (count e way) w = omega (arith, spell_length e (count_symbol way ∷ w))
  spell_length (binary op l r) w = omega (arith, spell_length l (binary_symbol op ∷ spell r w), spell_length r w)
  spell_length (instance_of l r) w = omega (arith, spell_length l (keyword word.InstanceOf ∷ spell r w), spell_length r w)
  spell_length (instance_of_static l spot) w = omega (arith, spell_length l (keyword word.InstanceOf ∷ keyword word.Static ∷ w))
  spell_length (choice c a b) w =
      omega (arith, spell_length c (punct mark.Question ∷ spell a (punct mark.Colon ∷ spell b w)), spell_length a (punct mark.Colon ∷ spell b w), spell_length b w)
  spell_length (short_choice c b) w = omega (arith, spell_length c (punct mark.Question ∷ punct mark.Colon ∷ spell b w), spell_length b w)
  spell_length (assign how l r) w = omega (arith, spell_length l (setting_symbols how (spell r w)), setting_length how (spell r w), spell_length r w)
  spell_length (yield_nothing spot) w = omega arith
  spell_length (yield_value spot v) w = omega (arith, spell_length v w)
  spell_length (yield_pair spot k v) w = omega (arith, spell_length k (punct mark.DoubleArrow ∷ spell v w), spell_length v w)

  pub items_length : {S : Type 0} (items : Items S) (w : List Symbol) → length (spell_items items w) ≡ size_items items + length w
  items_length none w = omega arith
  items_length (and items lead e) w =
      omega (
        arith,
        items_length items (comma items (spell_lead lead (spell e w))),
        comma_length items (spell_lead lead (spell e w)),
        lead_length lead (spell e w),
        spell_length e w,
      )
  items_length (skip items) w = omega (arith, items_length items (comma items w), comma_length items w)

  lead_length : {S : Type 0} (lead : Lead S) (w : List Symbol) → length (spell_lead lead w) ≡ size_lead lead + length w
  lead_length plain w = omega arith
  lead_length reference w = omega arith
  lead_length spread w = omega arith
  lead_length (keyed k) w = omega (arith, spell_length k (punct mark.DoubleArrow ∷ w))
  lead_length (keyed_reference k) w = omega (arith, spell_length k (punct mark.DoubleArrow ∷ punct mark.Ampersand ∷ w))

  pieces_length : {S : Type 0} (pieces : Pieces S) (w : List Symbol) → length (spell_pieces pieces w) ≡ size_pieces pieces + length w
  pieces_length no_piece w = omega arith
  pieces_length (bytes pieces text) w = omega (arith, pieces_length pieces (symbol.piece text ∷ w))
  pieces_length (value pieces e) w =
      omega (arith, pieces_length pieces (symbol.part ∷ spell e (symbol.end_part ∷ w)), spell_length e (symbol.end_part ∷ w))

  class_length : {S : Type 0} (class : Class S) (w : List Symbol) → length (spell_class class w) ≡ size_class class + length w
  class_length (class_name spot text) w = omega arith
  class_length (class_static spot) w = omega arith
  class_length (class_found steps) w = steps_length steps w

  steps_length : {S : Type 0} (steps : Steps S) (w : List Symbol) → length (spell_steps steps w) ≡ size_steps steps + length w
  steps_length (from spot text) w = omega arith
  steps_length (step_property steps m) w = omega (arith, steps_length steps (punct mark.Arrow ∷ member_symbol m ∷ w))
  steps_length (step_index steps e) w =
      omega (arith, steps_length steps (punct mark.LeftBracket ∷ spell e (punct mark.RightBracket ∷ w)), spell_length e (punct mark.RightBracket ∷ w))
