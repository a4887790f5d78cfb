-- What the states of the machine of statements stand for: the symbols that were read, and what holds of the trees in them.
use Rattle.std.proofs.Common.{◌≡◌, false, [], ◌∷◌}
use Rattle.php_token.specs.declared.kind.Keyword.TheVariants as word
use Rattle.php_token.specs.declared.kind.Punct.TheVariants as mark
use Rattle.php_ast.specs.Symbol as symbol
use Rattle.php_ast.specs.Symbol.{Symbol, keyword, punct}
use Rattle.php_ast.specs.expression.Tree.{Items}
use Rattle.php_ast.specs.expression.Spelling.{spell, spell_items, comma}
use Rattle.php_ast.specs.expression.Proper.{Proper, IsKey, ends_bare}
use Rattle.php_ast.specs.declared.statement.SwitchForm.{SwitchForm}
use Rattle.php_ast.specs.statement.Tree.{Name, Statement, Statements, ElseIfs, ElseIfLists, Cases, Catches}
use Rattle.php_ast.specs.statement.Spelling.{separator, separated, commas, spell_name, spell_dollar, spell_variable, spell_constant, symbol_if, jump_word, spell_target, spell_key, spell_head, spell_label, case_end_symbol, cases_opening, spell_statement, spell_statements, spell_elseifs, spell_elseif_lists, spell_cases, spell_catches}
use Rattle.php_ast.specs.statement.Proper.{takes_else, last_takes, last_body, NoneTakes, last_list, NoListTakes, is_empty, Each, IfAny, AreSome, AreAny, IsProperTarget, IsProperKey, IsProperLabel, IsProper, AreProper, AreProperParts, AreProperLists, AreProperCases, AreProperCatches}
use Rattle.php_grammar.specs.expression.Machine.{Nothing, Form}
use Rattle.php_grammar.specs.statement.Reading.{fixed_symbols}
use Rattle.php_grammar.specs.statement.Forms.{Loop, while_loop, for_loop, foreach_loop, StatementList, of_block, of_if, of_elseif, of_else, of_loop, of_case, of_try, of_catch, of_finally, list_open, if_open, elseif_open, else_open, loop_open, do_open, OpenStatement, Around, Head, if_head, elseif_head, elseif_list_head, while_head, do_head, switch_head, Values, of_echo, of_unset, of_starts, of_tests, of_steps, ExpressionPlace, as_line, as_value, as_static, as_constant, as_jump, as_thrown, as_test, as_walked, as_first, as_second, as_label, Names, of_globals, of_statics, of_constants, of_classes, of_declare, StatementState, due_statement, done, due, in_expression, due_in_list, due_value, due_name, past_name, due_int, past_static_word, past_jump, past_if, past_loop, past_as, past_key, past_switch, due_case, past_default, past_block}
use Rattle.php_grammar.proofs.expression.Sound.{symbols_so_far}
use Rattle.php_grammar_laws.proofs.Wholes.{IsInner}
use Rattle.php_grammar_laws.proofs.Begins.{Front, Same}

-- ---- the symbols in front of what is due

abbrev pub loop_front : Loop → Front
loop_front (while_loop test) w = spell_head word.While test w
loop_front (for_loop a b c) w =
    keyword word.For ∷ punct mark.LeftParen ∷ spell_items a (punct mark.Semicolon ∷ spell_items b (punct mark.Semicolon ∷ spell_items c (punct mark.RightParen ∷ w)))
loop_front (foreach_loop walked key value) w =
    keyword word.Foreach ∷ punct mark.LeftParen ∷ spell walked (keyword word.As ∷ spell_key key (spell_target value (punct mark.RightParen ∷ w)))

-- the part of a `try` up to its last `}`
abbrev pub try_front : Statements Nothing → Catches Nothing → Front
try_front body catches w = keyword word.Try ∷ punct mark.LeftBrace ∷ spell_statements body (punct mark.RightBrace ∷ spell_catches catches w)

abbrev pub switch_front : Form → SwitchForm → Cases Nothing → Front
switch_front e form cases w = spell_head word.Switch e (cases_opening form ∷ spell_cases cases w)

abbrev pub elseif_front : Form → Statement Nothing → ElseIfs Nothing → Front
elseif_front test body parts w = spell_head word.If test (spell_statement body (spell_elseifs parts w))

abbrev pub elseif_list_front : Form → Statements Nothing → ElseIfLists Nothing → Front
elseif_list_front test body parts w = spell_head word.If test (punct mark.Colon ∷ spell_statements body (spell_elseif_lists parts w))

abbrev pub list_front : StatementList → Front
list_front of_block w = punct mark.LeftBrace ∷ w
list_front (of_if test) w = spell_head word.If test (punct mark.Colon ∷ w)
list_front (of_elseif test body parts last) w = elseif_list_front test body parts (spell_head word.ElseIf last (punct mark.Colon ∷ w))
list_front (of_else test body parts) w = elseif_list_front test body parts (keyword word.Else ∷ punct mark.Colon ∷ w)
list_front (of_loop loop) w = loop_front loop (punct mark.Colon ∷ w)
list_front (of_case e form cases label end) w = switch_front e form cases (spell_label label (case_end_symbol end ∷ w))
list_front of_try w = keyword word.Try ∷ punct mark.LeftBrace ∷ w
list_front (of_catch body catches classes variable) w =
    try_front body catches (keyword word.Catch ∷ punct mark.LeftParen ∷ separated (punct mark.Bar) spell_name classes (spell_dollar variable (punct mark.RightParen ∷ punct mark.LeftBrace ∷ w)))
list_front (of_finally body catches) w = try_front body catches (keyword word.Finally ∷ punct mark.LeftBrace ∷ w)

abbrev pub open_front : OpenStatement → Front
open_front (list_open list ss) w = list_front list (spell_statements ss w)
open_front (if_open test) w = spell_head word.If test w
open_front (elseif_open test body parts last) w = elseif_front test body parts (spell_head word.ElseIf last w)
open_front (else_open test body parts) w = elseif_front test body parts (keyword word.Else ∷ w)
open_front (loop_open loop) w = loop_front loop w
open_front do_open w = keyword word.Do ∷ w

abbrev pub around_front : Around → Front
around_front [] w = w
around_front (f ∷ o) w = around_front o (open_front f w)

abbrev pub values_front : Values → Front
values_front of_echo w = keyword word.Echo ∷ w
values_front of_unset w = keyword word.Unset ∷ punct mark.LeftParen ∷ w
values_front of_starts w = keyword word.For ∷ punct mark.LeftParen ∷ w
values_front (of_tests a) w = keyword word.For ∷ punct mark.LeftParen ∷ spell_items a (punct mark.Semicolon ∷ w)
values_front (of_steps a b) w = keyword word.For ∷ punct mark.LeftParen ∷ spell_items a (punct mark.Semicolon ∷ spell_items b (punct mark.Semicolon ∷ w))

-- up to the `(` of a test
abbrev pub head_front : Head → Front
head_front if_head w = keyword word.If ∷ w
head_front (elseif_head test body parts) w = elseif_front test body parts (keyword word.ElseIf ∷ w)
head_front (elseif_list_head test body parts) w = elseif_list_front test body parts (keyword word.ElseIf ∷ w)
head_front while_head w = keyword word.While ∷ w
head_front (do_head a) w = keyword word.Do ∷ spell_statement a (keyword word.While ∷ w)
head_front switch_head w = keyword word.Switch ∷ w

abbrev pub walked_front : Form → Front
walked_front walked w = keyword word.Foreach ∷ punct mark.LeftParen ∷ spell walked (keyword word.As ∷ w)

-- a list with a comma behind it, or none
abbrev pub names_front : Names → Front
names_front (of_globals names) w = keyword word.Global ∷ commas spell_dollar names (separator (punct mark.Comma) names w)
names_front (of_statics xs) w = keyword word.Static ∷ commas spell_variable xs (separator (punct mark.Comma) xs w)
names_front (of_constants xs) w = keyword word.Const ∷ commas spell_constant xs (separator (punct mark.Comma) xs w)
names_front (of_classes body catches classes) w =
    try_front body catches (keyword word.Catch ∷ punct mark.LeftParen ∷ separated (punct mark.Bar) spell_name classes (separator (punct mark.Bar) classes w))
names_front of_declare w = keyword word.Declare ∷ punct mark.LeftParen ∷ w

abbrev pub spelled_in : Names → Name Nothing → Symbol
spelled_in (of_globals names) n = symbol.variable n.text
spelled_in (of_statics xs) n = symbol.variable n.text
spelled_in _ n = symbol.name n.text

abbrev pub place_front : ExpressionPlace → Front
place_front as_line w = w
place_front (as_value values items) w = values_front values (spell_items items (comma items w))
place_front (as_static xs n) w = names_front (of_statics xs) (spell_dollar n (punct mark.Assign ∷ w))
place_front (as_constant xs n) w = names_front (of_constants xs) (spell_name n (punct mark.Assign ∷ w))
place_front (as_jump kind) w = keyword (jump_word kind) ∷ w
place_front as_thrown w = keyword word.Throw ∷ w
place_front (as_test head) w = head_front head (punct mark.LeftParen ∷ w)
place_front as_walked w = keyword word.Foreach ∷ punct mark.LeftParen ∷ w
place_front (as_first walked is_reference) w = walked_front walked (symbol_if is_reference (punct mark.Ampersand) w)
place_front (as_second walked key is_reference) w = walked_front walked (spell_target key (punct mark.DoubleArrow ∷ symbol_if is_reference (punct mark.Ampersand) w))
place_front (as_label e form cases) w = switch_front e form cases (keyword word.Case ∷ w)

abbrev pub state_front : StatementState → Front
state_front (due_statement o) w = around_front o w
state_front (done a o) w = around_front o (spell_statement a w)
-- stands behind the fixed tokens that are due
state_front (due xs m) w = state_front m w
state_front (in_expression place m o) w = around_front o (place_front place (symbols_so_far m w))
state_front (due_in_list list ss o) w = around_front o (list_front list (spell_statements ss w))
state_front (due_value values o) w = around_front o (values_front values w)
state_front (due_name names o) w = around_front o (names_front names w)
state_front (past_name names n o) w = around_front o (names_front names (spelled_in names n ∷ w))
state_front (due_int n o) w = around_front o (names_front of_declare (spell_name n (punct mark.Assign ∷ w)))
state_front (past_static_word o) w = around_front o (keyword word.Static ∷ w)
state_front (past_jump kind o) w = around_front o (keyword (jump_word kind) ∷ w)
state_front (past_if test o) w = around_front o (spell_head word.If test w)
state_front (past_loop loop o) w = around_front o (loop_front loop w)
state_front (past_as walked o) w = around_front o (walked_front walked w)
state_front (past_key walked key o) w = around_front o (walked_front walked (spell_target key (punct mark.DoubleArrow ∷ w)))
state_front (past_switch e o) w = around_front o (spell_head word.Switch e w)
state_front (due_case e form cases o) w = around_front o (switch_front e form cases w)
state_front (past_default e form cases o) w = around_front o (switch_front e form cases (keyword word.Default ∷ w))
state_front (past_block body catches o) w = around_front o (try_front body catches w)

-- ---- what holds of the trees

abbrev pub SoundLoop : Loop → Type 0
SoundLoop (while_loop test) = Proper test
SoundLoop (for_loop a b c) = AreAny a × AreAny b × AreAny c
SoundLoop (foreach_loop walked key value) = (ends_bare walked ≡ false) × Proper walked × IsProperKey key × IsProperTarget value

-- an `if` whose `elseif` parts so far can be followed by a further one, or by `else`
abbrev pub SoundIf : Form → Statement Nothing → ElseIfs Nothing → Type 0
SoundIf test body parts = Proper test × IsProper body × AreProperParts parts × NoneTakes (takes_else body) parts × (last_body (takes_else body) parts ≡ false)

abbrev pub SoundIfLists : Form → Statements Nothing → ElseIfLists Nothing → Type 0
SoundIfLists test body parts = Proper test × AreProper body × AreProperLists parts × NoListTakes (last_takes body) parts × (last_list (last_takes body) parts ≡ false)

abbrev pub SoundTry : Statements Nothing → Catches Nothing → Type 0
SoundTry body catches = AreProper body × AreProperCatches catches

abbrev pub SoundList : StatementList → Type 0
SoundList of_block = Unit {0}
SoundList (of_if test) = Proper test
SoundList (of_elseif test body parts last) = SoundIfLists test body parts × Proper last
SoundList (of_else test body parts) = SoundIfLists test body parts
SoundList (of_loop loop) = SoundLoop loop
SoundList (of_case e form cases label end) = Proper e × AreProperCases cases × IsProperLabel label end
SoundList of_try = Unit {0}
SoundList (of_catch body catches classes variable) = SoundTry body catches × (is_empty classes ≡ false)
SoundList (of_finally body catches) = SoundTry body catches

abbrev pub SoundOpen : OpenStatement → Type 0
SoundOpen (list_open list ss) = SoundList list × AreProper ss
SoundOpen (if_open test) = Proper test
SoundOpen (elseif_open test body parts last) = SoundIf test body parts × Proper last
SoundOpen (else_open test body parts) = SoundIf test body parts
SoundOpen (loop_open loop) = SoundLoop loop
SoundOpen do_open = Unit {0}

abbrev pub SoundAround : Around → Type 0
SoundAround [] = Unit {0}
SoundAround (f ∷ o) = SoundOpen f × SoundAround o

abbrev pub SoundValues : Values → Type 0
SoundValues (of_tests a) = AreAny a
SoundValues (of_steps a b) = AreAny a × AreAny b
SoundValues _ = Unit {0}

-- values that may be the whole list
abbrev pub FitsValues : Values → Items Nothing → Type 0
FitsValues of_echo items = AreSome items
FitsValues of_unset items = AreSome items
FitsValues _ items = AreAny items

-- a list that may be empty
abbrev pub MayLackValues : Values → Type 0
MayLackValues of_echo = ⊥
MayLackValues of_unset = ⊥
MayLackValues _ = Unit {0}

abbrev pub SoundHead : Head → Type 0
SoundHead (elseif_head test body parts) = SoundIf test body parts
SoundHead (elseif_list_head test body parts) = SoundIfLists test body parts
SoundHead (do_head a) = IsProper a
SoundHead _ = Unit {0}

abbrev pub SoundNames : Names → Type 0
SoundNames (of_globals names) = Unit {0}
SoundNames (of_statics xs) = Each (λ x. IfAny x.value) xs
SoundNames (of_constants xs) = Each (λ x. Proper x.value) xs
SoundNames (of_classes body catches classes) = SoundTry body catches
SoundNames of_declare = Unit {0}

abbrev pub SoundWalked : Form → Type 0
SoundWalked walked = (ends_bare walked ≡ false) × Proper walked

abbrev pub SoundPlace : ExpressionPlace → Type 0
SoundPlace as_line = Unit {0}
SoundPlace (as_value values items) = SoundValues values × AreAny items
SoundPlace (as_static xs n) = Each (λ x. IfAny x.value) xs
SoundPlace (as_constant xs n) = Each (λ x. Proper x.value) xs
SoundPlace (as_jump kind) = Unit {0}
SoundPlace as_thrown = Unit {0}
SoundPlace (as_test head) = SoundHead head
SoundPlace as_walked = Unit {0}
SoundPlace (as_first walked is_reference) = SoundWalked walked
SoundPlace (as_second walked key is_reference) = SoundWalked walked × IsKey key.place × Proper key.place
SoundPlace (as_label e form cases) = Proper e × AreProperCases cases

abbrev pub SoundState : StatementState → Type 0
SoundState (due_statement o) = SoundAround o
SoundState (done a o) = SoundAround o × IsProper a × (takes_else a ≡ false)
SoundState (due xs m) = SoundState m
SoundState (in_expression place m o) = SoundAround o × SoundPlace place × IsInner m
SoundState (due_in_list list ss o) = SoundAround o × SoundList list × AreProper ss × (last_takes ss ≡ false)
SoundState (due_value values o) = SoundAround o × SoundValues values × MayLackValues values
SoundState (due_name names o) = SoundAround o × SoundNames names
SoundState (past_name names n o) = SoundAround o × SoundNames names
SoundState (due_int n o) = SoundAround o
SoundState (past_static_word o) = SoundAround o
SoundState (past_jump kind o) = SoundAround o
SoundState (past_if test o) = SoundAround o × Proper test
SoundState (past_loop loop o) = SoundAround o × SoundLoop loop
SoundState (past_as walked o) = SoundAround o × SoundWalked walked
SoundState (past_key walked key o) = SoundAround o × SoundWalked walked × IsKey key.place × Proper key.place
SoundState (past_switch e o) = SoundAround o × Proper e
SoundState (due_case e form cases o) = SoundAround o × Proper e × AreProperCases cases
SoundState (past_default e form cases o) = SoundAround o × Proper e × AreProperCases cases
SoundState (past_block body catches o) = SoundAround o × SoundTry body catches

-- ---- a state behind the symbols that were read

abbrev pub Reached : StatementState → Front → Type 0
Reached (due xs m) f = Reached m (λ w. f (fixed_symbols xs w))
Reached m f = SoundState m × Same (state_front m) f
