-- Statements, functions and members in a script.
use Rattle.std.proofs.Common.{◌≡◌, ◌≤◌, ℕ, zero, suc, ◌+◌, Bool, true, false, Option, Some, None, Result, Ok, Err, List, [], ◌∷◌, refl, sym, ◌∙◌, ap, subst, arith}
use Rattle.std.specs.Prelude.{nat_lt}
use Rattle.std.proofs.lemmas.Bool.{le-ltb}
use Rattle.php_token.specs.Token.{Token}
use Rattle.php_ast.specs.Symbol.{Symbol}
use Rattle.php_ast.specs.statement.Tree.{empty, then_also, Statement}
use Rattle.php_ast.specs.declaration.Tree.{of_statement, of_function, Script}
use Rattle.php_ast.specs.declaration.View.{function_view, item_view}
use Rattle.php_ast.specs.statement.View.{statement_view}
use Rattle.php_grammar.specs.Run.{either, if_some}
use Rattle.php_grammar.specs.TooDeep.{depth_inside}
use Rattle.php_grammar.specs.expression.Machine.{Nothing}
use Rattle.php_grammar.specs.statement.Role.{StatementBeginning, at_block, statement_beginning}
use Rattle.php_grammar.specs.statement.Forms.{StatementState, due_statement}
use Rattle.php_grammar.specs.statement.Machine.{advance_statement}
use Rattle.php_grammar.specs.statement.Depth.{begin_depth, begun_depth}
use Rattle.php_grammar.specs.declaration.FunctionMachine.{Routine, function_form, past_function}
use Rattle.php_ast.specs.statement.Tree.{Name}
use Rattle.php_grammar.specs.declaration.ScriptMachine.{Items, at_function, at_statement, item_role, item_begun, item_step, ScriptState, due_item, due_member, in_statement, in_function, function_of, heading_role, by_members}
use Rattle.php_grammar_laws.specs.Walks.{OutcomeOf, whole, short, deep, stepped, past, taken_on, resumed, walk_statement, walk_function, walk_script, ScriptsLendStatements, ScriptsLendFunctions}
use Rattle.php_reader.specs.declared.reader.Reader.{Reader}
use Rattle.php_reader.specs.declared.fail.Stop.{Stop}
use Rattle.php_reader.specs.declared.fail.Stop.TheVariants.{Syntax, TooDeep, NoMemory}
use Rattle.php_reader.specs.Seen.{Shows, rest}
use Rattle.php_parse_simple.specs.Walk.{stopped}
use Rattle.php_parse_simple.specs.declared.read.ReadStatement.{ReadStatement}
use Rattle.php_parse_statement.specs.Rows.{Outermost, StopsAll}
use Rattle.php_parse_member.specs.Answer as member
use Rattle.php_parse_member.specs.declared.read.ReadFunction.{ReadFunction}
use Rattle.php_parse_member.specs.declared.read.ReadMembers.{ReadMembers}
use Rattle.php_parse_script.specs.declared.read.ReadItem.{ReadItem}
use Rattle.php_parse_script.specs.Walk.{StopsBefore}
use Rattle.php_parse_script.specs.Answer.{Fails, FoundItem, AnswersItem, AnswersBraced}
use Rattle.php_parse_script.proofs.Moves.{go, sticks, leads, later}
use Rattle.php_parse_script.proofs.Heads.{brace_read}

-- ---- behind an item

-- the first symbol behind it begins the next one, or stops the walk
again_by : (n : ℕ) (items : Items) (o : Option ScriptState) (t : Symbol) (w : List Symbol) (b : Bool) → b ≡ false
    → taken_on o (λ x. walk_script n x w) (whole items (t ∷ w)) ≡ stepped o b (λ x. walk_script n x w) (whole items (t ∷ w)) (t ∷ w)
again_by n items None t w b low = refl
again_by n items (Some x) t w true low = cc
again_by n items (Some x) t w false low = refl

pub again : (n : ℕ) (items : Items) (w : List Symbol) → past (λ t. item_step items t) (walk_script n) (whole items) w ≡ walk_script n (due_item items) w
again n items [] = refl
again n items (t ∷ w) = again_by n items (item_step items t) t w (nat_lt n 0) (le-ltb n 0 (omega arith))

-- ---- statements

outside_by : (b : StatementBeginning) → begun_depth b [] ≡ 0
outside_by at_block = refl
outside_by _ = refl

low_by : (o : Option StatementState) (x : StatementState) (d n : ℕ) → o ≡ Some x → d ≡ 0 → depth_inside o d 0 ≤ n
low_by (Some y) x d n is low = omega (arith, low)
low_by None x d n is low = cc

-- a symbol that begins a statement
enters : (n : ℕ) (items : Items) (t : Symbol) (w : List Symbol) (x : StatementState) → item_role t ≡ at_statement → advance_statement (due_statement []) t ≡ Some x
    → walk_script n (due_item items) (t ∷ w) ≡ walk_script n (in_statement items (due_statement [])) (t ∷ w)
enters n items t w x role is =
    go n (due_item items) (in_statement items x) t w (ap (λ r. item_begun items r t) role ∙ ap (λ z. if_some z (λ m. Some (in_statement items m))) is) (omega arith)
    ∙ sym (go n (in_statement items (due_statement [])) (in_statement items x) t w (ap (λ z. either (if_some z (λ m. Some (in_statement items m))) None) is)
    (low_by (advance_statement (due_statement []) t) x (begin_depth [] t) n is (outside_by (statement_beginning t))))

-- a symbol that begins none
statement_refused : (n : ℕ) (t : Symbol) (w : List Symbol) → advance_statement (due_statement []) t ≡ None → walk_statement n (due_statement []) (t ∷ w) ≡ short (t ∷ w)
statement_refused n t w is = ap (λ o. stepped o (nat_lt n (begin_depth [] t)) (λ m. walk_statement n m w) (short (t ∷ w)) (t ∷ w)) is

item_refused : (n : ℕ) (items : Items) (t : Symbol) (w : List Symbol) → item_role t ≡ at_statement → advance_statement (due_statement []) t ≡ None → walk_script n (due_item items) (t ∷ w) ≡ whole items (t ∷ w)
item_refused n items t w role is = sticks n (due_item items) t w (ap (λ r. item_begun items r t) role ∙ ap (λ z. if_some z (λ m. Some (in_statement items m))) is)

abbrev behind_statement : ℕ → Items → Statement Nothing → List Symbol → OutcomeOf (Script Nothing)
behind_statement n items a = past (λ t. item_step (then_also items (of_statement a)) t) (walk_script n) (whole (then_also items (of_statement a)))

statement_by : (law : ScriptsLendStatements) (o : Option StatementState) (n : ℕ) (items : Items) (t : Symbol) (w v : List Symbol) (form : Statement Nothing) → advance_statement (due_statement []) t ≡ o → item_role t ≡ at_statement
    → walk_statement n (due_statement []) (t ∷ w) ≡ whole form v → walk_script n (due_item items) (t ∷ w) ≡ walk_script n (due_item (then_also items (of_statement form))) v
statement_by law None n items t w v form is role h = let wrong : short (t ∷ w) ≡ whole form v = sym (statement_refused n t w is) ∙ h in cc
statement_by law (Some x) n items t w v form is role h =
    enters n items t w x role is ∙ law n items (due_statement []) (t ∷ w) ∙ ap (resumed (behind_statement n items)) h ∙ again n (then_also items (of_statement form)) v

abbrev unread_of : {A : Type 0} → OutcomeOf A → List Symbol
unread_of (whole a v) = v
unread_of (short v) = v
unread_of (deep v) = v

stops_by : (law : ScriptsLendStatements) (o : Option StatementState) (too_deep : Bool) (n : ℕ) (items : Items) (t : Symbol) (w v : List Symbol) → advance_statement (due_statement []) t ≡ o → item_role t ≡ at_statement
    → walk_statement n (due_statement []) (t ∷ w) ≡ stopped too_deep v → StopsBefore too_deep v (walk_script n (due_item items) (t ∷ w))
stops_by law None true n items t w v is role h = let wrong : short (t ∷ w) ≡ deep v = sym (statement_refused n t w is) ∙ h in cc
stops_by law None false n items t w v is role h =
    let same : t ∷ w ≡ v = ap unread_of (sym (statement_refused n t w is) ∙ h) in
    subst (StopsBefore false v) (sym (item_refused n items t w role is)) (same, λ none. let wrong : t ∷ w ≡ [] = same ∙ none in cc)
stops_by law (Some x) true n items t w v is role h =
    subst (StopsBefore true v) (sym (enters n items t w x role is ∙ law n items (due_statement []) (t ∷ w) ∙ ap (resumed (behind_statement n items)) h)) refl
stops_by law (Some x) false n items t w v is role h =
    subst (StopsBefore false v) (sym (enters n items t w x role is ∙ law n items (due_statement []) (t ∷ w) ∙ ap (resumed (behind_statement n items)) h)) refl

pub statement_comes : (law : ScriptsLendStatements) (n : ℕ) (items : Items) (tokens : List Token) (at : ℕ) (v : List Symbol) (form : Statement Nothing) → Shows item_role tokens at at_statement
    → walk_statement n (due_statement []) (rest tokens at) ≡ whole form v → walk_script n (due_item items) (rest tokens at) ≡ walk_script n (due_item (then_also items (of_statement form))) v
statement_comes law n items tokens at v form o h =
    ap (walk_script n (due_item items)) o.stands.is
    ∙ statement_by law (advance_statement (due_statement []) o.token) n items o.token (rest tokens (at + 1)) v form refl o.role_is (ap (walk_statement n (due_statement [])) (sym o.stands.is) ∙ h)

pub statement_stops : (law : ScriptsLendStatements) (too_deep : Bool) (n : ℕ) (items : Items) (tokens : List Token) (at : ℕ) (v : List Symbol) → Shows item_role tokens at at_statement
    → walk_statement n (due_statement []) (rest tokens at) ≡ stopped too_deep v → StopsBefore too_deep v (walk_script n (due_item items) (rest tokens at))
statement_stops law too_deep n items tokens at v o h =
    subst (λ w. StopsBefore too_deep v (walk_script n (due_item items) w)) (sym o.stands.is)
    (stops_by law (advance_statement (due_statement []) o.token) too_deep n items o.token (rest tokens (at + 1)) v refl o.role_is (ap (walk_statement n (due_statement [])) (sym o.stands.is) ∙ h))

pub statement_fails : (law : ScriptsLendStatements) (room : ℕ) (tokens : List Token) (at : ℕ) (e : Stop) → Shows item_role tokens at at_statement → 1 ≤ room → ((n : ℕ) → room ≡ suc n → StopsAll n tokens at e)
    → (items : Items) → Fails room (due_item items) (rest tokens at) tokens at e
statement_fails law zero tokens at e o some h items = absurd (omega arith)
statement_fails law (suc m) tokens at (Syntax k) o some h items = record {
  halts = record { same = λ n is. statement_stops law false n items tokens at (rest tokens k) o (h n is).halts };
  ahead = (h m refl).ahead;
  within = (h m refl).within;
}
statement_fails law (suc m) tokens at (TooDeep k) o some h items = record {
  halts = record { same = λ n is. statement_stops law true n items tokens at (rest tokens k) o (h n is).halts };
  ahead = (h m refl).ahead;
  within = (h m refl).within;
}
statement_fails law (suc m) tokens at NoMemory o some h items = tt

-- ---- functions

enters_function : (n : ℕ) (items : Items) (tokens : List Token) (at : ℕ) → Shows item_role tokens at at_function → walk_script n (due_item items) (rest tokens at) ≡ walk_script n (in_function items past_function) (rest tokens (at + 1))
enters_function n items tokens at o =
    ap (walk_script n (due_item items)) o.stands.is ∙ go n (due_item items) (in_function items past_function) o.token (rest tokens (at + 1)) (ap (λ r. item_begun items r o.token) o.role_is) (omega arith)

abbrev behind_function : ℕ → Items → Routine (Name Nothing) → List Symbol → OutcomeOf (Script Nothing)
behind_function n items f = past (λ t. item_step (then_also items (function_of f)) t) (walk_script n) (whole (then_also items (function_of f)))

lent_function : (law : ScriptsLendFunctions) (n : ℕ) (items : Items) (tokens : List Token) (at : ℕ) → Shows item_role tokens at at_function
    → walk_script n (due_item items) (rest tokens at) ≡ resumed (behind_function n items) (walk_function function_form n past_function (rest tokens (at + 1)))
lent_function law n items tokens at o = enters_function n items tokens at o ∙ law n items past_function (rest tokens (at + 1))

pub function_comes : (law : ScriptsLendFunctions) (n : ℕ) (items : Items) (tokens : List Token) (at : ℕ) (v : List Symbol) (f : Routine (Name Nothing)) → Shows item_role tokens at at_function
    → walk_function function_form n past_function (rest tokens (at + 1)) ≡ whole f v → walk_script n (due_item items) (rest tokens at) ≡ walk_script n (due_item (then_also items (function_of f))) v
function_comes law n items tokens at v f o h = lent_function law n items tokens at o ∙ ap (resumed (behind_function n items)) h ∙ again n (then_also items (function_of f)) v

function_stops : (law : ScriptsLendFunctions) (too_deep : Bool) (n : ℕ) (items : Items) (tokens : List Token) (at : ℕ) (v : List Symbol) → Shows item_role tokens at at_function
    → walk_function function_form n past_function (rest tokens (at + 1)) ≡ stopped too_deep v → StopsBefore too_deep v (walk_script n (due_item items) (rest tokens at))
function_stops law true n items tokens at v o h = subst (StopsBefore true v) (sym (lent_function law n items tokens at o ∙ ap (resumed (behind_function n items)) h)) refl
function_stops law false n items tokens at v o h = subst (StopsBefore false v) (sym (lent_function law n items tokens at o ∙ ap (resumed (behind_function n items)) h)) refl

pub function_fails : (law : ScriptsLendFunctions) (room : ℕ) (tokens : List Token) (at : ℕ) (e : Stop) → Shows item_role tokens at at_function
    → member.Fails (walk_function function_form) room past_function (rest tokens (at + 1)) tokens (at + 1) e → (items : Items) → Fails room (due_item items) (rest tokens at) tokens at e
function_fails law room tokens at (Syntax k) o r items = record {
  halts = record { same = λ n is. function_stops law false n items tokens at (rest tokens k) o (r.halts.same n is) };
  ahead = omega (arith, r.ahead);
  within = r.within;
}
function_fails law room tokens at (TooDeep k) o r items = record {
  halts = record { same = λ n is. function_stops law true n items tokens at (rest tokens k) o (r.halts.same n is) };
  ahead = omega (arith, r.ahead);
  within = r.within;
}
function_fails law room tokens at NoMemory o r items = tt

-- ---- members

pub members_fail : (room : ℕ) (from : ScriptState) (tokens : List Token) (at : ℕ) (e : Stop) → member.Fails walk_script room from (rest tokens at) tokens at e → Fails room from (rest tokens at) tokens at e
members_fail room from tokens at (Syntax k) r = record {
  halts = record { same = λ n is. subst (StopsBefore false (rest tokens k)) (sym (r.halts.same n is)) refl };
  ahead = r.ahead;
  within = r.within;
}
members_fail room from tokens at (TooDeep k) r = record {
  halts = record { same = λ n is. subst (StopsBefore true (rest tokens k)) (sym (r.halts.same n is)) refl };
  ahead = r.ahead;
  within = r.within;
}
members_fail room from tokens at NoMemory r = tt

pub braced : (reader : Reader) (at : ℕ) (r : Result ReadMembers Stop) → Shows heading_role reader.tokens.now at by_members → member.AnswersMembers reader (at + 1) r → AnswersBraced reader at r
braced reader at (Ok r) g f = record {
  members = f.members;
  shown = f.shown;
  sized = omega (arith, f.sized);
  reads = λ items heading. leads (due_member items heading empty) (brace_read items heading g.token g.stands.is g.role_is) (record { same = λ n is. f.reads items heading n is });
  within = f.within;
}
braced reader at (Err e) g f = λ items heading over. later reader.tokens.now at (at + 1) (due_member items heading empty) e (omega arith) (brace_read items heading g.token g.stands.is g.role_is)
    (members_fail reader.room (due_member items heading empty) reader.tokens.now (at + 1) e (f items heading))

-- ---- items

pub statement_answers : (law : ScriptsLendStatements) (reader : Reader) (at : ℕ) (r : ReadStatement) (item : ReadItem) → Shows item_role reader.tokens.now at at_statement → 2 ≤ reader.room
    → ((n : ℕ) → reader.room ≡ suc n → Outermost n reader.tokens.now at r) → item_view item.item ≡ of_statement (statement_view r.statement) → item.next ≡ r.next → AnswersItem reader at (Ok item)
statement_answers law reader at r item o some found shown next = statement_by_room law reader.room reader.tokens.now at r item o some found shown next
  where
    statement_by_room : (law : ScriptsLendStatements) (room : ℕ) (tokens : List Token) (at : ℕ) (r : ReadStatement) (item : ReadItem) → Shows item_role tokens at at_statement → 2 ≤ room
        → ((n : ℕ) → room ≡ suc n → Outermost n tokens at r) → item_view item.item ≡ of_statement (statement_view r.statement) → item.next ≡ r.next → FoundItem room tokens at item
    statement_by_room law zero tokens at r item o some found shown next = absurd (omega arith)
    statement_by_room law (suc m) tokens at r item o some found shown next =
        let f : Outermost m tokens at r = found m refl in
        record {
          form = of_statement f.form;
          shown = shown ∙ ap of_statement f.shown;
          sized = omega (arith, f.sized, next);
          reads = λ items. record {
            same = λ n is. statement_comes law n items tokens at (rest tokens item.next) f.form o
                (subst (λ k. walk_statement k (due_statement []) (rest tokens at) ≡ whole f.form (rest tokens item.next)) (omega (arith, is)) (f.reads ∙ ap (λ k. whole f.form (rest tokens k)) (sym next)));
          };
          ahead = omega (arith, f.ahead, next);
          within = omega (arith, f.within, next);
        }

pub function_answers : (law : ScriptsLendFunctions) (reader : Reader) (at : ℕ) (r : ReadFunction) (item : ReadItem) → Shows item_role reader.tokens.now at at_function
    → member.FoundFunction reader.room reader.tokens.now at r → item_view item.item ≡ of_function (function_view r.function) → item.next ≡ r.next → AnswersItem reader at (Ok item)
function_answers law reader at r item o f shown next = record {
  form = of_function (member.function_tree f.form);
  shown = shown ∙ ap of_function f.shown;
  sized = omega (arith, f.sized, next);
  reads = λ items. record {
    same = λ n is. function_comes law n items reader.tokens.now at (rest reader.tokens.now item.next) f.form o (f.comes n is ∙ ap (λ k. whole f.form (rest reader.tokens.now k)) (sym next));
  };
  ahead = omega (arith, f.ahead, next);
  within = omega (arith, f.within, next);
}
