-- `try`.
use Rattle.std.proofs.Common.{◌≡◌, ◌≢◌, ◌≤◌, ℕ, ◌+◌, Bool, true, false, Option, Some, None, Result, Ok, Err, List, [], ◌∷◌, ◌++◌, map, refl, sym, ◌∙◌, ap, subst, arith}
use Rattle.php_token.specs.Token.{Token}
use Rattle.php_ast.specs.declared.statement.Stmt.{Stmt}
use Rattle.php_ast.specs.declared.statement.Catch.{Catch}
use Rattle.php_ast.specs.Symbol.{Symbol}
use Rattle.php_ast.specs.expression.View.{Note}
use Rattle.php_ast.specs.expression.Placed.{notes_of}
use Rattle.php_ast.specs.statement.Tree.{Statement, try_catch, try_finally, Sequence, Name, Catches, no_catch, and_catch, Statements, no_statement}
use Rattle.php_ast.specs.statement.View.{catches_from, list_view, name_view, names_view, optional, statement_view, statements_view, try_view}
use Rattle.php_ast.specs.statement.Proper.{is_no_catch}
use Rattle.php_ast.specs.statement.Placed.{size_separated, noted_separated, size_name, noted_name, size_statements, noted_statements, size_catches, noted_catches}
use Rattle.php_grammar.specs.expression.Machine.{Nothing}
use Rattle.php_grammar.specs.statement.Laws.{head_behind}
use Rattle.php_grammar.specs.statement.Role.{at_try, statement_beginning, Behind, by_brace, by_catch, by_finally, behind, left_paren, left_brace, is_fixed}
use Rattle.php_grammar.specs.statement.Forms.{StatementList, of_try, of_catch, of_finally, of_classes, Around, StatementState, due_statement, done, due, due_in_list, due_name, past_block}
use Rattle.php_grammar.specs.statement.Machine.{list_end, block_step, past_statement}
use Rattle.php_ast.specs.statement.Tree.{empty}
use Rattle.php_grammar.specs.statement.Depth.{statement_depth, block_depth, depth_past}
use Rattle.php_grammar_laws.specs.Walks.{short, walk_statement}
use Rattle.php_parse_simple.specs.Parts.{catch_parts}
use Rattle.php_parse_simple.specs.Answer.{SpansStatement, Fails}
use Rattle.php_parse_simple.specs.Walk.{Leads, Halts}
use Rattle.php_parse_simple.proofs.Moves.{alike, move, sticks, leads, due_outside}
use Rattle.php_parse_simple.proofs.Fails.{later}
use Rattle.php_reader.specs.Seen.{Shows, rest}
use Rattle.php_reader.specs.declared.reader.Reader.{Reader}
use Rattle.php_reader.specs.declared.found.Listed.{Listed}
use Rattle.php_reader.specs.declared.fail.Stop.{Stop}
use Rattle.php_reader.specs.declared.fail.Stop.TheVariants.{Syntax, TooDeep, NoMemory}
use Rattle.php_parse_statement.specs.ListAnswer.{list_measure, IsBraced, AnswersBraced}
use Rattle.php_parse_statement.specs.TryAnswer.{IsBlock, AnswersBlock, try_form, size_finally}

-- ---- blocks

-- counted where the `try` stands
pub block_leads : {room : ℕ} {from to : Around → StatementState} {x w : List Symbol} (list : StatementList) → ((o : Around) → list_measure list o ≡ statement_depth o) → Leads (list_measure list) room from x to w → Leads statement_depth room from x to w
block_leads {room} {from} {to} {x} {w} list outside r = record { same = λ n o is. r.same n o (ap (λ d. d + room) (outside o) ∙ is) }

pub block_fails : (from : Around → StatementState) (x : List Symbol) (list : StatementList) (room : ℕ) (tokens : List Token) (at : ℕ) (e : Stop) → ((o : Around) → list_measure list o ≡ statement_depth o)
    → Fails (list_measure list) room from x tokens at e → Fails statement_depth room from x tokens at e
block_fails from x list room tokens at (Syntax k) outside r = record { halts = record { same = λ n o is. r.halts.same n o (ap (λ d. d + room) (outside o) ∙ is) }; ahead = r.ahead; within = r.within }
block_fails from x list room tokens at (TooDeep k) outside r = record { halts = record { same = λ n o is. r.halts.same n o (ap (λ d. d + room) (outside o) ∙ is) }; ahead = r.ahead; within = r.within }
block_fails from x list room tokens at NoMemory outside r = tt

try_only : (ss : Statements Nothing) (o : Around) (x : Behind) → x ≢ by_brace → list_end of_try ss o x ≡ None
try_only ss o by_brace h = absurd (h refl)
try_only ss o _ h = refl

pub try_list : IsBlock of_try (λ ss o. past_block ss no_catch o)
try_list = record { braced = record { closes = λ ss o. refl; only = λ ss o x h. try_only ss o x h }; outside = λ o. refl }

catch_only : (body : Statements Nothing) (catches : Catches Nothing) (classes : Sequence (Name Nothing)) (variable : Name Nothing) (ss : Statements Nothing) (o : Around) (x : Behind) → x ≢ by_brace → list_end (of_catch body catches classes variable) ss o x ≡ None
catch_only body catches classes variable ss o by_brace h = absurd (h refl)
catch_only body catches classes variable ss o _ h = refl

pub catch_block : (body : Statements Nothing) (catches : Catches Nothing) (classes : Sequence (Name Nothing)) (variable : Name Nothing)
    → IsBlock (of_catch body catches classes variable) (λ ss o. past_block body (and_catch catches classes variable ss) o)
catch_block body catches classes variable = record { braced = record { closes = λ ss o. refl; only = λ ss o x h. catch_only body catches classes variable ss o x h }; outside = λ o. refl }

finally_only : (body : Statements Nothing) (catches : Catches Nothing) (ss : Statements Nothing) (o : Around) (x : Behind) → x ≢ by_brace → list_end (of_finally body catches) ss o x ≡ None
finally_only body catches ss o by_brace h = absurd (h refl)
finally_only body catches ss o _ h = refl

pub finally_block : (body : Statements Nothing) (catches : Catches Nothing) → IsBlock (of_finally body catches) (λ ss o. done (try_finally tt body catches ss) o)
finally_block body catches = record { braced = record { closes = λ ss o. refl; only = λ ss o x h. finally_only body catches ss o x h }; outside = λ o. refl }

-- from its `{` on
pub guarded_answers : (reader : Reader) (at : ℕ) (r : Result (Listed Stmt) Stop) → 1 ≤ reader.room → Shows (is_fixed left_brace) reader.tokens.now at true → AnswersBraced reader (at + 1) r → AnswersBlock reader at r
guarded_answers reader at (Ok r) roomy s found = record {
  statements = found.statements;
  shown = found.shown;
  sized = found.sized;
  reads = λ list to is. leads (λ o. due_in_list list no_statement o) (due_outside left_brace [] (λ o. due_in_list list no_statement o) s.token s.stands.is s.role_is (λ o. refl) (λ d. refl) roomy)
      (block_leads list is.outside (found.reads list to is.braced));
  within = found.within;
  flat = found.flat;
}
guarded_answers reader at (Err e) roomy s fails = λ list to is.
    later reader.tokens.now at (at + 1) (λ o. due_in_list list no_statement o) e (omega arith)
    (due_outside left_brace [] (λ o. due_in_list list no_statement o) s.token s.stands.is s.role_is (λ o. refl) (λ d. refl) roomy)
    (block_fails (λ o. due_in_list list no_statement o) (rest reader.tokens.now (at + 1)) list reader.room reader.tokens.now (at + 1) e is.outside (fails list to is.braced))

-- ---- behind a block

pub catch_on : {room : ℕ} {x w : List Symbol} (body : Statements Nothing) (catches : Catches Nothing) (t : Symbol) → x ≡ t ∷ w → behind t ≡ by_catch → 1 ≤ room
    → Leads statement_depth room (λ o. past_block body catches o) x (λ o. due (left_paren ∷ []) (due_name (of_classes body catches empty) o)) w
catch_on body catches t is h roomy = move t is (λ o. ap (block_step body catches o t) h) (λ n o at. omega (arith, ap (λ z. block_depth z o t) h))

pub finally_on : {room : ℕ} {x w : List Symbol} (body : Statements Nothing) (catches : Catches Nothing) (t : Symbol) → x ≡ t ∷ w → behind t ≡ by_finally → 1 ≤ room
    → Leads statement_depth room (λ o. past_block body catches o) x (λ o. due (left_brace ∷ []) (due_in_list (of_finally body catches) no_statement o)) w
finally_on body catches t is h roomy = move t is (λ o. ap (block_step body catches o t) h) (λ n o at. omega (arith, ap (λ z. block_depth z o t) h))

-- neither, where nothing was caught
alone_stuck : (body : Statements Nothing) (o : Around) (t : Symbol) (x : Behind) → x ≢ by_catch → x ≢ by_finally → block_step body no_catch o t x ≡ None
alone_stuck body o t by_catch a b = absurd (a refl)
alone_stuck body o t by_finally a b = absurd (b refl)
alone_stuck body o t _ a b = refl

alone_lacks : (n : ℕ) (body : Statements Nothing) (o : Around) (w : List Symbol) → head_behind w ≢ by_catch → head_behind w ≢ by_finally → walk_statement n (past_block body no_catch o) w ≡ short w
alone_lacks n body o [] a b = refl
alone_lacks n body o (t ∷ w) a b = sticks n (past_block body no_catch o) t w (alone_stuck body o t (behind t) a b)

pub alone_halts : {room : ℕ} {w : List Symbol} (body : Statements Nothing) (catches : Catches Nothing) → catches ≡ no_catch → head_behind w ≢ by_catch → head_behind w ≢ by_finally
    → Halts false statement_depth room (λ o. past_block body catches o) w w
alone_halts {room} {w} body catches none a b = record { same = λ n o is. ap (λ z. walk_statement n (past_block body z o) w) none ∙ alone_lacks n body o w a b }

-- neither, where something was: it walks on as behind a statement
caught_step : (body : Statements Nothing) (catches : Catches Nothing) (o : Around) (t : Symbol) (x : Behind) → is_no_catch catches ≡ false → x ≢ by_catch → x ≢ by_finally → block_step body catches o t x ≡ past_statement (try_catch tt body catches) o t
caught_step body no_catch o t x some a b = cc
caught_step body (and_catch catches classes variable ss) o t by_catch some a b = absurd (a refl)
caught_step body (and_catch catches classes variable ss) o t by_finally some a b = absurd (b refl)
caught_step body (and_catch catches classes variable ss) o t _ some a b = refl

caught_deep : (x : Behind) (o : Around) (t : Symbol) → x ≢ by_catch → x ≢ by_finally → block_depth x o t ≡ depth_past o t
caught_deep by_catch o t a b = absurd (a refl)
caught_deep by_finally o t a b = absurd (b refl)
caught_deep _ o t a b = refl

caught_over : (n : ℕ) (body : Statements Nothing) (catches : Catches Nothing) (o : Around) (w : List Symbol) → is_no_catch catches ≡ false → head_behind w ≢ by_catch → head_behind w ≢ by_finally
    → walk_statement n (past_block body catches o) w ≡ walk_statement n (done (try_catch tt body catches) o) w
caught_over n body no_catch o w some a b = cc
caught_over n body (and_catch catches classes variable ss) o [] some a b = refl
caught_over n body (and_catch catches classes variable ss) o (t ∷ w) some a b =
    alike n (past_block body (and_catch catches classes variable ss) o) (done (try_catch tt body (and_catch catches classes variable ss)) o) t w
    (caught_step body (and_catch catches classes variable ss) o t (behind t) some a b) (caught_deep (behind t) o t a b) refl

pub caught_ends : {room : ℕ} {w : List Symbol} (body : Statements Nothing) (catches : Catches Nothing) → is_no_catch catches ≡ false → head_behind w ≢ by_catch → head_behind w ≢ by_finally
    → Leads statement_depth room (λ o. past_block body catches o) w (λ o. done (try_catch tt body catches) o) w
caught_ends {room} {w} body catches some a b = record { same = λ n o is. caught_over n body catches o w some a b }

-- ---- `catch` parts that grow

pub no_end : {A : Type 0} (xs new : List A) (x : A) → new ≡ xs ++ x ∷ [] → new ≡ [] → ⊥
no_end [] new x grown none = cc
no_end (y ∷ xs) new x grown none = cc

catches_grow : (before : Catches Note) (xs : List (Catch (Statement Note))) (x : Catch (Statement Note)) → catches_from before (xs ++ x ∷ []) ≡ and_catch (catches_from before xs) (names_view x.classes) (name_view x.variable) (list_view x.body)
catches_grow before [] x = refl
catches_grow before (y ∷ xs) x = catches_grow (and_catch before (names_view y.classes) (name_view y.variable) (list_view y.body)) xs x

parts_map : (xs : List (Catch Stmt)) (x : Catch Stmt) → map catch_parts (xs ++ x ∷ []) ≡ map catch_parts xs ++ catch_parts x ∷ []
parts_map [] x = refl
parts_map (y ∷ xs) x = ap (λ v. catch_parts y ∷ v) (parts_map xs x)

pub catches_more : (tokens : List Token) (at place : ℕ) (catches : Catches Nothing) (classes : Sequence (Name Nothing)) (variable : Name Nothing) (ss : Statements Nothing) (xs new : List (Catch Stmt)) (x : Catch Stmt) → new ≡ xs ++ x ∷ []
    → catches_from no_catch (map catch_parts xs) ≡ noted_catches (notes_of tokens) at catches → at + size_catches catches ≡ place
    → names_view x.classes ≡ noted_separated size_name (noted_name (notes_of tokens)) (place + 2) classes
    → name_view x.variable ≡ noted_name (notes_of tokens) (place + 2 + size_separated size_name classes) variable
    → statements_view x.body ≡ noted_statements (notes_of tokens) (place + 2 + size_separated size_name classes + 3) ss
    → catches_from no_catch (map catch_parts new) ≡ noted_catches (notes_of tokens) at (and_catch catches classes variable ss)
catches_more tokens at place catches classes variable ss xs new x grown shown sized classes_is variable_is body_is =
    ap (λ l. catches_from no_catch (map catch_parts l)) grown ∙ ap (catches_from no_catch) (parts_map xs x) ∙ catches_grow no_catch (map catch_parts xs) (catch_parts x)
    ∙ ap (λ z. and_catch z (names_view x.classes) (name_view x.variable) (statements_view x.body)) shown
    ∙ ap (λ z. and_catch (noted_catches (notes_of tokens) at catches) z (name_view x.variable) (statements_view x.body))
    (classes_is ∙ ap (λ k. noted_separated size_name (noted_name (notes_of tokens)) (k + 2) classes) (sym sized))
    ∙ ap (λ z. and_catch (noted_catches (notes_of tokens) at catches) (noted_separated size_name (noted_name (notes_of tokens)) (at + size_catches catches + 2) classes) z (statements_view x.body))
    (variable_is ∙ ap (λ k. noted_name (notes_of tokens) (k + 2 + size_separated size_name classes) variable) (sym sized))
    ∙ ap (and_catch (noted_catches (notes_of tokens) at catches) (noted_separated size_name (noted_name (notes_of tokens)) (at + size_catches catches + 2) classes)
    (noted_name (notes_of tokens) (at + size_catches catches + 2 + size_separated size_name classes) variable))
    (body_is ∙ ap (λ k. noted_statements (notes_of tokens) (k + 2 + size_separated size_name classes + 3) ss) (sym sized))

-- ---- notes

pub statements_shift : (tokens : List Token) (place other : ℕ) (ss : Statements Nothing) (shown : Statements Note) → shown ≡ noted_statements (notes_of tokens) place ss → other ≡ place → shown ≡ noted_statements (notes_of tokens) other ss
statements_shift tokens place other ss shown same is = same ∙ ap (λ k. noted_statements (notes_of tokens) k ss) (sym is)

pub name_shift : (tokens : List Token) (place other : ℕ) (a : Name Nothing) (shown : Name Note) → shown ≡ noted_name (notes_of tokens) place a → other ≡ place → shown ≡ noted_name (notes_of tokens) other a
name_shift tokens place other a shown same is = same ∙ ap (λ k. noted_name (notes_of tokens) k a) (sym is)

pub names_shift : (tokens : List Token) (place other : ℕ) (xs : Sequence (Name Nothing)) (shown : Sequence (Name Note)) → shown ≡ noted_separated size_name (noted_name (notes_of tokens)) place xs → other ≡ place
    → shown ≡ noted_separated size_name (noted_name (notes_of tokens)) other xs
names_shift tokens place other xs shown same is = same ∙ ap (λ k. noted_separated size_name (noted_name (notes_of tokens)) k xs) (sym is)

pub optional_lists : (x : Option (List Stmt)) → optional list_view (optional (map statement_view) x) ≡ optional statements_view x
optional_lists None = refl
optional_lists (Some ss) = refl

pub try_spans : (tokens : List Token) (made : Statement Note) (spot : Note) (body : Statements Note) (parts : Catches Note) (last : Option (List (Statement Note))) (ss : Statements Nothing) (catches : Catches Nothing) (l : Option (Statements Nothing)) (at place next : ℕ)
    → made ≡ try_view spot body parts last → spot ≡ (notes_of tokens).token at → body ≡ noted_statements (notes_of tokens) (at + 1 + 1) ss → at + 1 + 1 + size_statements ss + 1 ≡ place
    → parts ≡ noted_catches (notes_of tokens) place catches → optional list_view last ≡ optional (noted_statements (notes_of tokens) (place + size_catches catches + 2)) l
    → place + size_catches catches + size_finally l ≡ next → SpansStatement tokens made (try_form ss catches l) at next
try_spans tokens made spot body parts None ss catches None at place next is noted_is body_is where_is parts_is last_is sized = record {
  shown = is ∙ ap (λ n. try_catch n body parts) noted_is
      ∙ ap (λ z. try_catch ((notes_of tokens).token at) z parts) (body_is ∙ ap (λ k. noted_statements (notes_of tokens) k ss) (omega arith))
      ∙ ap (try_catch ((notes_of tokens).token at) (noted_statements (notes_of tokens) (at + 2) ss)) (parts_is ∙ ap (λ k. noted_catches (notes_of tokens) k catches) (omega arith));
  sized = omega arith;
}
try_spans tokens made spot body parts None ss catches (Some l) at place next is noted_is body_is where_is parts_is last_is sized = cc
try_spans tokens made spot body parts (Some last) ss catches None at place next is noted_is body_is where_is parts_is last_is sized = cc
try_spans tokens made spot body parts (Some last) ss catches (Some l) at place next is noted_is body_is where_is parts_is last_is sized =
    let own : list_view last ≡ noted_statements (notes_of tokens) (place + size_catches catches + 2) l = cc in
    record {
      shown = is ∙ ap (λ n. try_finally n body parts (list_view last)) noted_is
          ∙ ap (λ z. try_finally ((notes_of tokens).token at) z parts (list_view last)) (body_is ∙ ap (λ k. noted_statements (notes_of tokens) k ss) (omega arith))
          ∙ ap (λ z. try_finally ((notes_of tokens).token at) (noted_statements (notes_of tokens) (at + 2) ss) z (list_view last)) (parts_is ∙ ap (λ k. noted_catches (notes_of tokens) k catches) (omega arith))
          ∙ ap (try_finally ((notes_of tokens).token at) (noted_statements (notes_of tokens) (at + 2) ss) (noted_catches (notes_of tokens) (at + 3 + size_statements ss) catches))
          (own ∙ ap (λ k. noted_statements (notes_of tokens) k l) (omega arith));
      sized = omega arith;
    }
