-- The spelling of an expression, in front of what follows it.
use Rattle.std.specs.Prelude.{List, ◌∷◌}
use Rattle.php_token.specs.declared.kind.Keyword.TheVariants as word
use Rattle.php_token.specs.declared.kind.Punct.TheVariants as mark
use Rattle.php_ast.specs.declared.operator.ArrayForm.TheVariants as form
use Rattle.php_ast.specs.Symbol as symbol
use Rattle.php_ast.specs.Symbol.{Symbol, keyword, punct}
use Rattle.php_ast.specs.Operators.{binary_symbol, prefix_symbol, count_symbol, assign_symbol, magic_symbol}
use Rattle.php_ast.specs.expression.Tree.{Leaf, variable, int, string, name, magic, Enclosure, parentheses, emptiness, exiting, Listing, array, is_set, Arrow, thin, colons, Setting, by_value, by_reference, Member, named, reserved, held}
use Rattle.php_ast.specs.expression.Tree.{Tree, leaf, template, enclosed, listed, exit, exit_empty, static_member, append, index, selected, computed, call, new, new_with, prefix, count, binary, instance_of, instance_of_static, choice, short_choice, assign, yield_nothing, yield_value, yield_pair}
use Rattle.php_ast.specs.expression.Tree.{Items, none, and, skip, Lead, plain, reference, spread, keyed, keyed_reference, Pieces, no_piece, bytes, value, Class, class_name, class_static, class_found, Steps, from, step_property, step_index}

abbrev pub leaf_symbol : Leaf → Symbol
leaf_symbol (variable text) = symbol.variable text
leaf_symbol (int n) = symbol.int n
leaf_symbol (string text) = symbol.string text
leaf_symbol (name text) = symbol.name text
leaf_symbol (magic constant) = magic_symbol constant

abbrev pub member_symbol : {S : Type 0} → Member S → Symbol
member_symbol (named spot text) = symbol.name text
member_symbol (reserved spot keyword_of) = keyword keyword_of
member_symbol (held spot text) = symbol.variable text

abbrev pub arrow_symbol : Arrow → Symbol
arrow_symbol thin = punct mark.Arrow
arrow_symbol colons = punct mark.DoubleColon

-- the tokens before an enclosed expression
abbrev pub opening : Enclosure → List Symbol → List Symbol
opening parentheses w = punct mark.LeftParen ∷ w
opening emptiness w = keyword word.Empty ∷ punct mark.LeftParen ∷ w
opening exiting w = keyword word.Exit ∷ punct mark.LeftParen ∷ w

-- the tokens before a list, and the token behind it
abbrev pub list_opening : Listing → List Symbol → List Symbol
list_opening (array form.Brackets) w = punct mark.LeftBracket ∷ w
list_opening (array form.Array) w = keyword word.Array ∷ punct mark.LeftParen ∷ w
list_opening (array form.List) w = keyword word.List ∷ punct mark.LeftParen ∷ w
list_opening is_set w = keyword word.IsSet ∷ punct mark.LeftParen ∷ w

abbrev pub list_closing : Listing → Symbol
list_closing (array form.Brackets) = punct mark.RightBracket
list_closing _ = punct mark.RightParen

abbrev pub setting_symbols : Setting → List Symbol → List Symbol
setting_symbols (by_value op) w = assign_symbol op ∷ w
setting_symbols by_reference w = punct mark.Assign ∷ punct mark.Ampersand ∷ w

-- a comma, where items stand before
abbrev pub comma : {S : Type 0} → Items S → List Symbol → List Symbol
comma none w = w
comma (and items lead e) w = punct mark.Comma ∷ w
comma (skip items) w = punct mark.Comma ∷ w

abbrev mutual
  pub spell : {S : Type 0} → Tree S → List Symbol → List Symbol
  spell (leaf spot l) w = leaf_symbol l ∷ w
  spell (template spot pieces) w = symbol.quote ∷ spell_pieces pieces (symbol.unquote ∷ w)
  spell (enclosed spot enclosure e) w = opening enclosure (spell e (punct mark.RightParen ∷ w))
  spell (listed spot listing items) w = list_opening listing (spell_items items (list_closing listing ∷ w))
  spell (exit spot) w = keyword word.Exit ∷ w
  spell (exit_empty spot) w = keyword word.Exit ∷ punct mark.LeftParen ∷ punct mark.RightParen ∷ w
  spell (static_member spot member) w = keyword word.Static ∷ punct mark.DoubleColon ∷ member_symbol member ∷ w
  spell (append e) w = spell e (punct mark.LeftBracket ∷ punct mark.RightBracket ∷ w)
  spell (index e key) w = spell e (punct mark.LeftBracket ∷ spell key (punct mark.RightBracket ∷ w))
  spell (selected e arrow member) w = spell e (arrow_symbol arrow ∷ member_symbol member ∷ w)
  spell (computed e key) w = spell e (punct mark.Arrow ∷ punct mark.LeftBrace ∷ spell key (punct mark.RightBrace ∷ w))
  spell (call f items) w = spell f (punct mark.LeftParen ∷ spell_items items (punct mark.RightParen ∷ w))
  spell (new spot class) w = keyword word.New ∷ spell_class class w
  spell (new_with spot class items) w =
      keyword word.New ∷ spell_class class (punct mark.LeftParen ∷ spell_items items (punct mark.RightParen ∷ w))
  spell (prefix spot op e) w = prefix_symbol op ∷ spell e w
  spell (count e way) w = spell e (count_symbol way ∷ w)
  spell (binary op l r) w = spell l (binary_symbol op ∷ spell r w)
  spell (instance_of l r) w = spell l (keyword word.InstanceOf ∷ spell r w)
  spell (instance_of_static l spot) w = spell l (keyword word.InstanceOf ∷ keyword word.Static ∷ w)
  spell (choice c a b) w = spell c (punct mark.Question ∷ spell a (punct mark.Colon ∷ spell b w))
  spell (short_choice c b) w = spell c (punct mark.Question ∷ punct mark.Colon ∷ spell b w)
  spell (assign setting l r) w = spell l (setting_symbols setting (spell r w))
  spell (yield_nothing spot) w = keyword word.Yield ∷ w
  spell (yield_value spot v) w = keyword word.Yield ∷ spell v w
  spell (yield_pair spot k v) w = keyword word.Yield ∷ spell k (punct mark.DoubleArrow ∷ spell v w)

  pub spell_items : {S : Type 0} → Items S → List Symbol → List Symbol
  spell_items none w = w
  spell_items (and items lead e) w = spell_items items (comma items (spell_lead lead (spell e w)))
  spell_items (skip items) w = spell_items items (comma items w)

  pub spell_lead : {S : Type 0} → Lead S → List Symbol → List Symbol
  spell_lead plain w = w
  spell_lead reference w = punct mark.Ampersand ∷ w
  spell_lead spread w = punct mark.Ellipsis ∷ w
  spell_lead (keyed k) w = spell k (punct mark.DoubleArrow ∷ w)
  spell_lead (keyed_reference k) w = spell k (punct mark.DoubleArrow ∷ punct mark.Ampersand ∷ w)

  pub spell_pieces : {S : Type 0} → Pieces S → List Symbol → List Symbol
  spell_pieces no_piece w = w
  spell_pieces (bytes pieces text) w = spell_pieces pieces (symbol.piece text ∷ w)
  spell_pieces (value pieces e) w = spell_pieces pieces (symbol.part ∷ spell e (symbol.end_part ∷ w))

  pub spell_class : {S : Type 0} → Class S → List Symbol → List Symbol
  spell_class (class_name spot text) w = symbol.name text ∷ w
  spell_class (class_static spot) w = keyword word.Static ∷ w
  spell_class (class_found steps) w = spell_steps steps w

  pub spell_steps : {S : Type 0} → Steps S → List Symbol → List Symbol
  spell_steps (from spot text) w = symbol.variable text ∷ w
  spell_steps (step_property steps member) w = spell_steps steps (punct mark.Arrow ∷ member_symbol member ∷ w)
  spell_steps (step_index steps e) w = spell_steps steps (punct mark.LeftBracket ∷ spell e (punct mark.RightBracket ∷ w))
