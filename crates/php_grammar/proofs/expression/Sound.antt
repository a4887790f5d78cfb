-- The invariant of the machine, and the symbols that a state stands for.
use Rattle.std.proofs.Common.{◌≡◌, ◌≤◌, ◌<◌, ℕ, true, false, List, [], ◌∷◌}
use Rattle.php_token.specs.declared.kind.Keyword.TheVariants as word
use Rattle.php_token.specs.declared.kind.Punct.TheVariants as mark
use Rattle.php_ast.specs.Symbol as symbol
use Rattle.php_ast.specs.Symbol.{Symbol, keyword, punct}
use Rattle.php_ast.specs.expression.Tree.{parentheses, array, is_set, Items, Lead, plain, spread}
use Rattle.php_ast.specs.expression.Spelling.{spell, spell_items, spell_pieces, spell_class, spell_steps, comma, arrow_symbol}
use Rattle.php_ast.specs.Power.{binary_row, choice_row, instance_of_row, yield_power}
use Rattle.php_ast.specs.expression.Proper.{free, top, power, takes_arrow, ends_bare, is_call, IsOperand, HasSuffix, IsCallable, AreArguments, AreArrayItems, AreValues, FitsListing, FitsLeft, IsKey, Proper, AreProperItems, IsProperLead, AreProperPieces, IsProperClass, AreProperSteps}
use Rattle.php_grammar.specs.expression.Machine.{Nothing, Form, Holder, of_call, of_new, of_list, OpenForm, enclosed_open, items_open, index_open, computed_open, step_open, part_open, then_open, else_open, short_open, prefix_open, binary_open, instance_of_open, assign_open, yield_open, yield_value_open, OpenForms, State, expects, holds, holds_call, due_enclosed, due_listed, past_items, past_value, past_exit, past_exit_paren, past_static, past_static_colons, past_template, past_index, past_arrow, past_new, past_class, past_step, past_question, past_assign, past_yield, least_power, has_paren, is_array, holder_front, opening_parts}
use Rattle.php_grammar.proofs.expression.Roles.{enclosure_word, listing_word}

-- ---- lists

abbrev pub SoundHolder : Holder → Type 0
SoundHolder (of_call f) = IsCallable f × Proper f
SoundHolder (of_new class) = IsProperClass class
SoundHolder (of_list listing) = Unit {0}

-- items that a list may have so far
abbrev pub SoundList : Holder → Items Nothing → Type 0
SoundList (of_list (array form)) items = AreArrayItems items
SoundList (of_list is_set) items = AreValues items
SoundList _ items = AreArguments items

-- all the items that it has
abbrev pub SoundEnd : Holder → Items Nothing → Type 0
SoundEnd (of_list listing) items = FitsListing listing items
SoundEnd _ items = AreArguments items

abbrev pub SoundLead : Holder → Lead Nothing → Type 0
SoundLead (of_list (array form)) spread = ⊥
SoundLead (of_list (array form)) _ = Unit {0}
SoundLead h plain = Unit {0}
SoundLead (of_call f) spread = Unit {0}
SoundLead (of_new class) spread = Unit {0}
SoundLead _ _ = ⊥

pub record SoundItems (h : Holder) (items : Items Nothing) : Type 0 where
  pub holder : SoundHolder h
  pub list : SoundList h items
  pub proper : AreProperItems items

-- ---- open forms

abbrev pub IsSoundAt : OpenForm → Type 0
IsSoundAt (enclosed_open enclosure) = Unit {0}
IsSoundAt (items_open h items lead) = SoundItems h items × SoundLead h lead × IsProperLead lead
IsSoundAt (index_open a) = HasSuffix a × Proper a
IsSoundAt (computed_open a) = HasSuffix a × Proper a
IsSoundAt (step_open steps) = AreProperSteps steps
IsSoundAt (part_open pieces) = AreProperPieces pieces
IsSoundAt (then_open c) = FitsLeft choice_row c × Proper c
IsSoundAt (else_open c a) = FitsLeft choice_row c × (ends_bare a ≡ false) × Proper c × Proper a
IsSoundAt (short_open c) = FitsLeft choice_row c × Proper c
IsSoundAt (prefix_open op) = Unit {0}
IsSoundAt (binary_open op l) = FitsLeft (binary_row op) l × Proper l
IsSoundAt (instance_of_open l) = FitsLeft instance_of_row l × Proper l
IsSoundAt (assign_open how l) = IsOperand l × Proper l
IsSoundAt yield_open = Unit {0}
IsSoundAt (yield_value_open k) = (yield_power < power k) × IsKey k × Proper k

-- the power of the form when it is completed
abbrev pub power_in : OpenForm → ℕ
power_in (then_open c) = choice_row.power
power_in (else_open c a) = choice_row.power
power_in (short_open c) = choice_row.power
power_in (prefix_open op) = free
power_in (binary_open op l) = (binary_row op).power
power_in (instance_of_open l) = instance_of_row.power
power_in (assign_open how l) = free
power_in yield_open = free
power_in (yield_value_open k) = free
power_in _ = top

abbrev pub IsSound : OpenForms → Type 0
IsSound [] = Unit {0}
IsSound (f ∷ s) = IsSoundAt f × (least_power s ≤ power_in f) × IsSound s

-- a call is no class behind `instanceof`
abbrev pub Seats : Form → OpenForms → Type 0
Seats e (instance_of_open l ∷ s) = is_call e ≡ false
Seats e _ = Unit {0}

-- the innermost open form can take the tree
pub record IsFitting (e : Form) (s : OpenForms) : Type 0 where
  pub proper : Proper e
  pub near : least_power s ≤ power e
  pub sound : IsSound s
  pub seats : Seats e s

-- a tree at whose end no `yield` is open
pub record Closed (e : Form) : Type 0 where
  pub no_arrow : takes_arrow e ≡ false
  pub not_bare : ends_bare e ≡ false

abbrev pub IsSoundState : State → Type 0
IsSoundState (expects s) = IsSound s
IsSoundState (holds e s) = IsFitting e s × Closed e
IsSoundState (holds_call e s) = (is_call e ≡ true) × Proper e × IsSound s × Closed e
IsSoundState (due_enclosed enclosure s) = IsSound s
IsSoundState (due_listed listing s) = (has_paren (of_list listing) ≡ true) × IsSound s
IsSoundState (past_items h items s) = SoundItems h items × IsSound s
IsSoundState (past_value h items k s) = SoundItems h items × (is_array h ≡ true) × IsKey k × Proper k × IsSound s
IsSoundState (past_exit s) = IsSound s
IsSoundState (past_exit_paren s) = IsSound s
IsSoundState (past_static s) = IsSound s
IsSoundState (past_static_colons s) = IsSound s
IsSoundState (past_template pieces s) = AreProperPieces pieces × IsSound s
IsSoundState (past_index e s) = HasSuffix e × Proper e × IsSound s
IsSoundState (past_arrow arrow e s) = HasSuffix e × Proper e × IsSound s
IsSoundState (past_new s) = IsSound s
IsSoundState (past_class class s) = IsProperClass class × IsSound s
IsSoundState (past_step steps s) = AreProperSteps steps × IsSound s
IsSoundState (past_question c s) = FitsLeft choice_row c × Proper c × (least_power s ≤ choice_row.power) × IsSound s
IsSoundState (past_assign l s) = IsOperand l × Proper l × (least_power s ≤ free) × IsSound s
IsSoundState (past_yield s) = (least_power s ≤ free) × IsSound s

-- ---- the symbols that a state stands for

abbrev pub symbols_so_far : State → List Symbol → List Symbol
symbols_so_far (expects s) w = opening_parts s w
symbols_so_far (holds e s) w = opening_parts s (spell e w)
symbols_so_far (holds_call e s) w = opening_parts s (spell e w)
symbols_so_far (due_enclosed parentheses s) w = opening_parts s w
symbols_so_far (due_enclosed enclosure s) w = opening_parts s (enclosure_word enclosure ∷ w)
symbols_so_far (due_listed listing s) w = opening_parts s (listing_word listing ∷ w)
symbols_so_far (past_items h items s) w = opening_parts s (holder_front h (spell_items items (comma items w)))
symbols_so_far (past_value h items k s) w =
    opening_parts s (holder_front h (spell_items items (comma items (spell k (punct mark.DoubleArrow ∷ w)))))
symbols_so_far (past_exit s) w = opening_parts s (keyword word.Exit ∷ w)
symbols_so_far (past_exit_paren s) w = opening_parts s (keyword word.Exit ∷ punct mark.LeftParen ∷ w)
symbols_so_far (past_static s) w = opening_parts s (keyword word.Static ∷ w)
symbols_so_far (past_static_colons s) w = opening_parts s (keyword word.Static ∷ punct mark.DoubleColon ∷ w)
symbols_so_far (past_template pieces s) w = opening_parts s (symbol.quote ∷ spell_pieces pieces w)
symbols_so_far (past_index e s) w = opening_parts s (spell e (punct mark.LeftBracket ∷ w))
symbols_so_far (past_arrow arrow e s) w = opening_parts s (spell e (arrow_symbol arrow ∷ w))
symbols_so_far (past_new s) w = opening_parts s (keyword word.New ∷ w)
symbols_so_far (past_class class s) w = opening_parts s (keyword word.New ∷ spell_class class w)
symbols_so_far (past_step steps s) w = opening_parts s (keyword word.New ∷ spell_steps steps (punct mark.Arrow ∷ w))
symbols_so_far (past_question c s) w = opening_parts s (spell c (punct mark.Question ∷ w))
symbols_so_far (past_assign l s) w = opening_parts s (spell l (punct mark.Assign ∷ w))
symbols_so_far (past_yield s) w = opening_parts s (keyword word.Yield ∷ w)
