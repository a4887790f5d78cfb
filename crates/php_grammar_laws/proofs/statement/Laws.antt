-- Where the machine of statements halts, and its laws.
use Rattle.std.proofs.Common.{◌≡◌, ◌≢◌, pos, Bool, true, false, None, List, [], ◌∷◌, ◌++◌, refl, sym, ◌∙◌, ap}
use Rattle.php_token.specs.declared.kind.Punct.TheVariants as mark
use Rattle.php_token.specs.declared.kind.Keyword.TheVariants as word
use Rattle.php_ast.specs.Symbol.{Symbol, keyword, punct}
use Rattle.php_ast.specs.expression.Tree.{Items, none, and, plain}
use Rattle.php_ast.specs.expression.Spelling.{spell, spell_items}
use Rattle.php_ast.specs.expression.Proper.{Proper, ends_bare}
use Rattle.php_ast.specs.declared.statement.SwitchForm.TheVariants as switch_form
use Rattle.php_ast.specs.declared.statement.CaseEnd.TheVariants as case_end
use Rattle.php_ast.specs.statement.Spelling.{spell_statement, spell_statements, spell_name, spell_head, spell_target, jump_word}
use Rattle.php_ast.specs.statement.Proper.{IsProper, AreProper, AreAny}
use Rattle.php_ast.specs.statement.Tree.{empty, Name}
use Rattle.php_ast.specs.statement.Tree.{Statement, jump, switch, try_catch, try_finally, declares}
use Rattle.php_ast.specs.statement.Tree.{Statements, no_statement, no_elseif, single, if_only, no_case, and_case, no_catch, and_catch}
use Rattle.php_grammar.specs.Begins.{BeginsStatement}
use Rattle.php_grammar.specs.expression.Machine.{Nothing, Form, State, any, is_last, halt}
use Rattle.php_grammar.specs.statement.Laws.{SpellsStatement, StatementEnds}
use Rattle.php_grammar.specs.statement.Reading.{tested_statement, head_rest, read_statement_from, any_statement, any_name, end_symbol, list_rest, completed_around, missing_around, values_statement, values_rest, placed_statement, place_rest, named_statement, name_symbol, name_rest, fixed_symbols, halt_statement, read_statement}
use Rattle.php_grammar.specs.statement.Machine.{advance_statement}
use Rattle.php_grammar.specs.statement.Forms.{Loop, while_loop, for_loop, foreach_loop, StatementList, of_block, of_if, of_elseif, of_else, of_loop, of_case, of_try, of_catch, of_finally, Around, Head, if_head, elseif_head, elseif_list_head, while_head, do_head, switch_head, Values, of_echo, of_unset, of_starts, of_tests, of_steps, ExpressionPlace, as_line, as_value, as_static, as_constant, as_jump, as_thrown, as_test, as_walked, as_first, as_second, as_label, Names, of_globals, of_statics, of_constants, of_classes, of_declare, StatementState, due_statement, done, due, in_expression, due_in_list, due_value, due_name, past_name, due_int, past_static_word, past_jump, past_if, past_loop, past_as, past_key, past_switch, due_case, past_default, past_block, looped, listed_statement, completed_statement}
use Rattle.php_grammar.proofs.expression.Sound.{symbols_so_far}
use Rattle.php_grammar.proofs.expression.Appended.{spell_append}
use Rattle.php_grammar.proofs.statement.LawProofs.{statements_read_back, statement_stops}
use Rattle.php_grammar_laws.specs.Statements.{BeginsAsStatement}
use Rattle.php_grammar_laws.proofs.Stops.{LeavesUnread, stops_exactly_by, unfinished_by}
use Rattle.php_grammar_laws.proofs.Appends.{statement_appends, in_front}
use Rattle.php_grammar_laws.proofs.Wholes.{IsInner, HaltsInside, halts_inside}
use Rattle.php_grammar_laws.proofs.Begins.{Front, Same, Begins, begins_by}
use Rattle.php_grammar_laws.proofs.statement.Sound.{loop_front, head_front, switch_front, try_front, walked_front, SoundHead, around_front, list_front, values_front, names_front, spelled_in, place_front, SoundLoop, SoundAround, SoundList, SoundValues, MayLackValues, SoundNames, SoundPlace, Reached}
use Rattle.php_grammar_laws.proofs.statement.Steps.{completed_proper, completed_spells}
use Rattle.php_grammar_laws.proofs.statement.Places.{steps_lead}

-- ---- what is open around, ended as shortly as possible

around_proper : (o : Around) (a : Statement Nothing) → SoundAround o → IsProper a → IsProper (completed_around o a)
around_proper [] a h p = p
around_proper (f ∷ o) a h p = around_proper o (completed_statement f a) h.1 (completed_proper f a h.0 p)

around_spells : (o : Around) (a : Statement Nothing) → spell_statement (completed_around o a) [] ≡ around_front o (spell_statement a (missing_around o))
around_spells [] a = refl
around_spells (f ∷ o) a = around_spells o (completed_statement f a) ∙ ap (around_front o) (completed_spells f a (missing_around o))

-- a statement, its end so far, and what that lacks
stops : (o : Around) (a : Statement Nothing) (g : Front) (missing : List Symbol) (f : Front) → SoundAround o → IsProper a → spell_statement a (missing_around o) ≡ g missing → Same (λ w. around_front o (g w)) f
    → SpellsStatement (completed_around o a) (f missing)
stops o a g missing f h p spelled same = (around_proper o a h p, around_spells o a ∙ ap (around_front o) spelled ∙ same missing)

listed_stops : (list : StatementList) (ss : Statements Nothing) (o : Around) (f : Front) → SoundAround o → SoundList list → AreProper ss → Same (λ w. around_front o (list_front list (spell_statements ss w))) f
    → SpellsStatement (completed_around o (listed_statement list ss)) (f (list_rest list (missing_around o)))
listed_stops of_block ss o f a h p same = stops o _ (λ w. list_front of_block (spell_statements ss w)) _ f a p refl same
listed_stops (of_if test) ss o f a h p same = stops o _ (λ w. list_front (of_if test) (spell_statements ss w)) _ f a (h, p, tt, tt) refl same
listed_stops (of_elseif test body parts e) ss o f a h p same =
    stops o _ (λ w. list_front (of_elseif test body parts e) (spell_statements ss w)) _ f a (h.0.0, h.0.1, (h.0.2, h.1, p), (h.0.3, h.0.4)) refl same
listed_stops (of_else test body parts) ss o f a h p same = stops o _ (λ w. list_front (of_else test body parts) (spell_statements ss w)) _ f a (h.0, h.1, h.2, h.3, h.4, p) refl same
listed_stops (of_loop (while_loop test)) ss o f a h p same = stops o _ (λ w. list_front (of_loop (while_loop test)) (spell_statements ss w)) _ f a (h, p) refl same
listed_stops (of_loop (for_loop b c d)) ss o f a h p same = stops o _ (λ w. list_front (of_loop (for_loop b c d)) (spell_statements ss w)) _ f a (h.0, h.1, h.2, p) refl same
listed_stops (of_loop (foreach_loop e key value)) ss o f a h p same =
    stops o _ (λ w. list_front (of_loop (foreach_loop e key value)) (spell_statements ss w)) _ f a (h.0, h.1, h.2, h.3, p) refl same
listed_stops (of_case e form cases label end) ss o f a h p same = stops o _ (λ w. list_front (of_case e form cases label end) (spell_statements ss w)) _ f a (h.0, (h.1, h.2, p)) refl same
listed_stops of_try ss o f a h p same = stops o _ (λ w. list_front of_try (spell_statements ss w)) _ f a (p, tt, tt) refl same
listed_stops (of_catch body catches classes n) ss o f a h p same =
    stops o _ (λ w. list_front (of_catch body catches classes n) (spell_statements ss w)) _ f a (h.0.0, refl, (h.0.1, h.1, p)) refl same
listed_stops (of_finally body catches) ss o f a h p same = stops o _ (λ w. list_front (of_finally body catches) (spell_statements ss w)) _ f a (h.0, h.1, p) refl same

values_proper : (values : Values) → SoundValues values → MayLackValues values → IsProper (values_statement values none)
values_proper of_echo h may = absurd may
values_proper of_unset h may = absurd may
values_proper of_starts h may = ((tt, tt), (tt, tt), (tt, tt), tt)
values_proper (of_tests b) h may = (h, (tt, tt), (tt, tt), tt)
values_proper (of_steps b c) h may = (h.0, h.1, (tt, tt), tt)

values_spells : (values : Values) (items : Items Nothing) (w : List Symbol) → spell_statement (values_statement values items) w ≡ values_front values (spell_items items (values_rest values w))
values_spells of_echo items w = refl
values_spells of_unset items w = refl
values_spells of_starts items w = refl
values_spells (of_tests b) items w = refl
values_spells (of_steps b c) items w = refl

one_value : (values : Values) (items : Items Nothing) (e : Form) → SoundValues values → AreAny items → Proper e → IsProper (values_statement values (and items plain e))
one_value of_echo items e h k p = (k.0, refl, (k.1, tt, p))
one_value of_unset items e h k p = (k.0, refl, (k.1, tt, p))
one_value of_starts items e h k p = ((k.0, (k.1, tt, p)), (tt, tt), (tt, tt), tt)
one_value (of_tests b) items e h k p = (h, (k.0, (k.1, tt, p)), (tt, tt), tt)
one_value (of_steps b c) items e h k p = (h.0, h.1, (k.0, (k.1, tt, p)), tt)

named_proper : (names : Names) (n : Name Nothing) → SoundNames names → IsProper (named_statement names n)
named_proper (of_globals names) n h = refl
named_proper (of_statics xs) n h = (refl, (h, tt))
named_proper (of_constants xs) n h = (refl, (h, tt))
named_proper (of_classes body catches classes) n h = (h.0, refl, (h.1, refl, tt))
named_proper of_declare n h = tt

named_spells : (names : Names) (n : Name Nothing) (w : List Symbol) → spell_statement (named_statement names n) w ≡ names_front names (spelled_in names n ∷ name_rest names w)
named_spells (of_globals names) n w = refl
named_spells (of_statics xs) n w = refl
named_spells (of_constants xs) n w = refl
named_spells (of_classes body catches classes) n w = refl
named_spells of_declare n w = refl

any_name_symbol : (names : Names) → spelled_in names any_name ≡ name_symbol names
any_name_symbol (of_globals names) = refl
any_name_symbol (of_statics xs) = refl
any_name_symbol (of_constants xs) = refl
any_name_symbol (of_classes body catches classes) = refl
any_name_symbol of_declare = refl

-- ---- an expression in a statement

no_bare : (e : Form) (b : Bool) → ends_bare e ≡ b → (b ≡ true → false ≡ true) → ends_bare e ≡ false
no_bare e false is h = is
no_bare e true is h = let no_way : false ≡ true = h refl in cc

tested_proper : (head : Head) (e : Form) → SoundHead head → Proper e → IsProper (tested_statement head e)
tested_proper if_head e h p = (p, tt, tt, tt)
tested_proper (elseif_head test body parts) e h p = (h.0, h.1, (h.2, p, tt), (h.3, h.4))
tested_proper (elseif_list_head test body parts) e h p = (h.0, h.1, (h.2, p, tt), (h.3, h.4))
tested_proper while_head e h p = (p, tt)
tested_proper (do_head a) e h p = (h, p)
tested_proper switch_head e h p = (p, tt)

placed_proper : (place : ExpressionPlace) (e : Form) (w : List Symbol) → SoundPlace place → Proper e → (ends_bare e ≡ true → is_last (place_rest place w) [] ≡ true) → IsProper (placed_statement place e)
placed_proper as_line e w h p bare = p
placed_proper (as_value values items) e w h p bare = one_value values items e h.0 h.1 p
placed_proper (as_static xs n) e w h p bare = (refl, (h, p))
placed_proper (as_constant xs n) e w h p bare = (refl, (h, p))
placed_proper (as_jump kind) e w h p bare = p
placed_proper as_thrown e w h p bare = p
placed_proper (as_test head) e w h p bare = tested_proper head e h p
placed_proper as_walked e w h p bare = (no_bare e (ends_bare e) refl bare, p, tt, tt, tt)
placed_proper (as_first walked r) e w h p bare = (h.0, h.1, tt, p, tt)
placed_proper (as_second walked key r) e w h p bare = (h.0.0, h.0.1, (h.1, h.2), p, tt)
placed_proper (as_label d form cases) e w h p bare = (h.0, (h.1, p, tt))

tested_spells : (head : Head) (e : Form) (w : List Symbol) → spell_statement (tested_statement head e) w ≡ head_front head (punct mark.LeftParen ∷ spell e (head_rest head w))
tested_spells if_head e w = refl
tested_spells (elseif_head test body parts) e w = refl
tested_spells (elseif_list_head test body parts) e w = refl
tested_spells while_head e w = refl
tested_spells (do_head a) e w = refl
tested_spells switch_head e w = refl

placed_spells : (place : ExpressionPlace) (e : Form) (w : List Symbol) → spell_statement (placed_statement place e) w ≡ place_front place (spell e (place_rest place w))
placed_spells as_line e w = refl
placed_spells (as_value values items) e w = values_spells values (and items plain e) w
placed_spells (as_static xs n) e w = refl
placed_spells (as_constant xs n) e w = refl
placed_spells (as_jump kind) e w = refl
placed_spells as_thrown e w = refl
placed_spells (as_test head) e w = tested_spells head e w
placed_spells as_walked e w = refl
placed_spells (as_first walked r) e w = refl
placed_spells (as_second walked key r) e w = refl
placed_spells (as_label d form cases) e w = refl

-- what an expression inside has read and lacks, in front of what must follow
pub inside_spells : (m : State) (rest : List Symbol) → IsInner m → HaltsInside m rest (halt m rest) → spell (halt m rest).tree rest ≡ symbols_so_far m ((halt m rest).missing ++ (halt m rest).unread)
inside_spells m rest h i =
    spell_append (halt m rest).tree [] rest ∙ ap (λ u. u ++ rest) i.spelled ∙ sym (h.appends.at (halt m rest).missing rest) ∙ ap (λ u. symbols_so_far m ((halt m rest).missing ++ u)) (sym i.unread)

expression_stops : (place : ExpressionPlace) (m : State) (o : Around) (f : Front) → SoundAround o → SoundPlace place → IsInner m → Same (λ w. around_front o (place_front place (symbols_so_far m w))) f
    → SpellsStatement (completed_around o (placed_statement place (halt m (place_rest place (missing_around o))).tree))
    (f ((halt m (place_rest place (missing_around o))).missing ++ (halt m (place_rest place (missing_around o))).unread))
expression_stops place m o f a p inner same =
    let rest : List Symbol = place_rest place (missing_around o) in
    let i : HaltsInside m rest (halt m rest) = halts_inside m rest inner.sound in
    stops o (placed_statement place (halt m rest).tree) (λ w. place_front place (symbols_so_far m w)) ((halt m rest).missing ++ (halt m rest).unread) f a
    (placed_proper place (halt m rest).tree (missing_around o) p i.proper i.bare)
    (placed_spells place (halt m rest).tree (missing_around o) ∙ ap (place_front place) (inside_spells m rest inner i)) same

-- ---- halting

loop_proper : (loop : Loop) → SoundLoop loop → IsProper (looped loop (single any_statement))
loop_proper (while_loop test) h = (h, tt)
loop_proper (for_loop b c d) h = (h.0, h.1, h.2, tt)
loop_proper (foreach_loop e key value) h = (h.0, h.1, h.2, h.3, tt)

loop_spells : (loop : Loop) (w : List Symbol) → spell_statement (looped loop (single any_statement)) w ≡ loop_front loop (end_symbol ∷ w)
loop_spells (while_loop test) w = refl
loop_spells (for_loop b c d) w = refl
loop_spells (foreach_loop e key value) w = refl

pub halts_spelled : (m : StatementState) (f : Front) (w : List Symbol) → Reached m f → SpellsStatement (halt_statement m w).tree (f (halt_statement m w).missing)
halts_spelled (due_statement o) f w h = stops o any_statement (λ v. v) _ f h.0 tt refl h.1
halts_spelled (done a o) f w h = stops o a (spell_statement a) _ f h.0.0 h.0.1 refl h.1
halts_spelled (due xs m) f w h = halts_spelled m (λ v. f (fixed_symbols xs v)) w h
halts_spelled (in_expression place m o) f w h = expression_stops place m o f h.0.0 h.0.1 h.0.2 h.1
halts_spelled (due_in_list list ss o) f w h = listed_stops list ss o f h.0.0 h.0.1 h.0.2 h.1
halts_spelled (due_value values o) f w h = stops o (values_statement values none) (values_front values) _ f h.0.0 (values_proper values h.0.1 h.0.2) (values_spells values none (missing_around o)) h.1
halts_spelled (due_name names o) f w h =
    stops o (named_statement names any_name) (names_front names) _ f h.0.0 (named_proper names any_name h.0.1)
    (named_spells names any_name (missing_around o) ∙ ap (λ t. names_front names (t ∷ name_rest names (missing_around o))) (any_name_symbol names)) h.1
halts_spelled (past_name names n o) f w h =
    stops o (named_statement names n) (λ v. names_front names (spelled_in names n ∷ v)) _ f h.0.0 (named_proper names n h.0.1) (named_spells names n (missing_around o)) h.1
halts_spelled (due_int n o) f w h = stops o (declares tt n (pos 0)) (λ v. names_front of_declare (spell_name n (punct mark.Assign ∷ v))) _ f h.0 tt refl h.1
halts_spelled (past_static_word o) f w h = stops o (named_statement (of_statics empty) any_name) (λ v. keyword word.Static ∷ v) _ f h.0 (refl, (tt, tt)) refl h.1
halts_spelled (past_jump kind o) f w h = stops o (jump tt kind None) (λ v. keyword (jump_word kind) ∷ v) _ f h.0 tt refl h.1
halts_spelled (past_if test o) f w h = stops o (if_only tt test any_statement no_elseif) (spell_head word.If test) _ f h.0.0 (h.0.1, tt, tt, tt) refl h.1
halts_spelled (past_loop loop o) f w h = stops o (looped loop (single any_statement)) (loop_front loop) _ f h.0.0 (loop_proper loop h.0.1) (loop_spells loop (missing_around o)) h.1
halts_spelled (past_as walked o) f w h = stops o (placed_statement (as_first walked false) any) (walked_front walked) _ f h.0.0 (h.0.1.0, h.0.1.1, tt, tt, tt) refl h.1
halts_spelled (past_key walked key o) f w h =
    stops o (placed_statement (as_second walked key false) any) (λ v. walked_front walked (spell_target key (punct mark.DoubleArrow ∷ v))) _ f h.0.0 (h.0.1.0, h.0.1.1, (h.0.2, h.0.3), tt, tt) refl h.1
halts_spelled (past_switch e o) f w h = stops o (switch tt e switch_form.Braces no_case) (spell_head word.Switch e) _ f h.0.0 (h.0.1, tt) refl h.1
halts_spelled (due_case e form cases o) f w h = stops o (switch tt e form cases) (switch_front e form cases) _ f h.0.0 (h.0.1, h.0.2) refl h.1
halts_spelled (past_default e form cases o) f w h =
    stops o (switch tt e form (and_case cases tt None case_end.Semicolon no_statement)) (λ v. switch_front e form cases (keyword word.Default ∷ v)) _ f h.0.0 (h.0.1, (h.0.2, tt, tt)) refl h.1
halts_spelled (past_block body no_catch o) f w h = stops o (try_finally tt body no_catch no_statement) (try_front body no_catch) _ f h.0.0 (h.0.1.0, tt, tt) refl h.1
halts_spelled (past_block body (and_catch catches classes n ss) o) f w h =
    stops o (try_catch tt body (and_catch catches classes n ss)) (try_front body (and_catch catches classes n ss)) _ f h.0.0 (h.0.1.0, refl, h.0.1.1) refl h.1

-- ---- laws

pub leaves : LeavesUnread StatementState (Statement Nothing) halt_statement
leaves = statement_stops.unread

pub begins_from : (w : List Symbol) (m : StatementState) (f : Front) → Reached m f → Begins SpellsStatement f w (read_statement_from m w)
begins_from w m f h = begins_by advance_statement halt_statement SpellsStatement Reached leaves halts_spelled steps_lead w m f h

pub reading_begins : (w : List Symbol) → BeginsAsStatement w (read_statement w)
reading_begins w =
    let b : Begins SpellsStatement (λ v. v) w (read_statement w) = begins_from w (due_statement []) (λ v. v) (tt, λ v. refl) in
    record { proper = b.spelled.0; done = b.done; whole = b.whole; spelled = b.spelled.1 }

pub spelled_read : (w v : List Symbol) (a : Statement Nothing) → SpellsStatement a w → StatementEnds a v → read_statement (w ++ v) ≡ record { tree = a; missing = []; unread = v }
spelled_read w v a h ends =
    ap (λ u. read_statement (u ++ v)) (sym h.1) ∙ ap read_statement (sym (in_front (statement_appends a) v)) ∙ statements_read_back a v h.0 ends

pub unfinished : (w v : List Symbol) (a : Statement Nothing) → SpellsStatement a w → StatementEnds a v → (read_statement (w ++ v)).missing ≢ [] → ⊥
unfinished w v a h ends lacks = unfinished_by (read_statement (w ++ v)) a v (spelled_read w v a h ends) lacks

pub all_read : (w : List Symbol) (a : Statement Nothing) → SpellsStatement a w → read_statement w ≡ record { tree = a; missing = []; unread = [] }
all_read w a h = ap read_statement (sym h.1) ∙ statements_read_back a [] h.0 (record { no_else = λ x. refl; no_catch = λ x. refl })

pub stops_exactly : (w front : List Symbol) (t : Symbol) (v : List Symbol) → w ≡ front ++ t ∷ v → (read_statement w).unread ≡ t ∷ v → BeginsStatement (front ++ t ∷ []) → ⊥
stops_exactly w front t v is h b =
    stops_exactly_by advance_statement halt_statement leaves (due_statement []) w front t v b.rest is h (ap (λ r. r.unread) (all_read ((front ++ t ∷ []) ++ b.rest) b.tree b.spelled))
