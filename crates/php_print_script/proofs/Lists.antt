-- The spelling of sequences and of lists of statements, element by element from the first one on.
use Rattle.std.proofs.Common.{◌≡◌, Bool, true, false, Option, Some, None, List, [], ◌∷◌, map, length, refl, ◌∙◌, ap}
use Rattle.std.specs.Prelude.{◌==◌}
use Rattle.php_ast.specs.declared.spot.Name as rust_name
use Rattle.php_token.specs.declared.kind.Punct.TheVariants as mark
use Rattle.php_ast.specs.declared.statement.ElseIf.{ElseIf}
use Rattle.php_ast.specs.declared.statement.Case.{Case}
use Rattle.php_ast.specs.declared.statement.Catch.{Catch}
use Rattle.php_token.specs.declared.kind.Keyword.TheVariants as word
use Rattle.php_ast.specs.Symbol.{Symbol, keyword, punct}
use Rattle.php_ast.specs.expression.Tree.{Tree}
use Rattle.php_ast.specs.statement.Tree.{Sequence, empty, then_also, Name, Statement, Statements, and_statement, ElseIfs, and_elseif, ElseIfLists, and_elseif_list, Cases, and_case, Catches, and_catch}
use Rattle.php_ast.specs.statement.Spelling.{commas, spell_name, symbol_if, separator, separated, spell_head, spell_statement, spell_statements, spell_elseifs, spell_elseif_lists, spell_cases, spell_catches}
use Rattle.php_ast.specs.declaration.Spelling.{joined, spell_names, spell_member}
use Rattle.php_print_script.specs.declaration.Elements.{spell_rules}
use Rattle.php_ast.specs.declared.declaration.Rule as rust_rule
use Rattle.php_token.specs.declared.kind.Keyword.{Keyword}
use Rattle.php_ast.specs.declaration.View.{rule_view, uses_view}
use Rattle.php_ast.specs.statement.View.{optional, sequence, sequence_from, name_view, names_view, statements_from, list_view, elseifs_from, elseif_lists_from, cases_from, catches_from, if_view, if_lists_view, try_view}
use Rattle.php_print_script.specs.statement.Elements.{spell_elseif, spell_elseif_list, spell_case, spell_braces, spell_catch, spell_else, spell_else_list, spell_finally}
use Rattle.php_ast.specs.expression.View.{Note, spot_view, view}
use Rattle.php_print.proofs.Lists.{rest, all, behind}

-- ---- sequences

abbrev pub some_before : {A : Type 0} → Sequence A → Bool
some_before empty = false
some_before (then_also xs x) = true

separated_by : {A : Type 0} (token : Symbol) (before : Sequence A) (w : List Symbol) → separator token before w ≡ symbol_if (some_before before) token w
separated_by token empty w = refl
separated_by token (then_also xs x) w = refl

pub sequence_spelled : {A : Type 0} (token : Symbol) (each : A → List Symbol → List Symbol) (before : Sequence A) (xs : List A) (w : List Symbol)
    → separated token each (sequence_from before xs) w ≡ separated token each before (rest token each (some_before before) xs w)
sequence_spelled token each before [] w = refl
sequence_spelled token each before (x ∷ xs) w =
    sequence_spelled token each (then_also before x) xs w ∙ ap (separated token each before) (separated_by token before (each x (rest token each true xs w)))

pub joined_spelled : {A : Type 0} (each : A → List Symbol → List Symbol) (before : Sequence A) (xs : List A) (w : List Symbol)
    → joined each (sequence_from before xs) w ≡ joined each before (all each xs w)
joined_spelled each before [] w = refl
joined_spelled each before (x ∷ xs) w = joined_spelled each (then_also before x) xs w

-- ---- statements

pub statements_spelled : (before : Statements Note) (xs : List (Statement Note)) (w : List Symbol)
    → spell_statements (statements_from before xs) w ≡ spell_statements before (all spell_statement xs w)
statements_spelled before [] w = refl
statements_spelled before (x ∷ xs) w = statements_spelled (and_statement before x) xs w

pub elseifs_spelled : (before : ElseIfs Note) (xs : List (ElseIf (Statement Note))) (w : List Symbol)
    → spell_elseifs (elseifs_from before xs) w ≡ spell_elseifs before (all spell_elseif xs w)
elseifs_spelled before [] w = refl
elseifs_spelled before (x ∷ xs) w = elseifs_spelled (and_elseif before (view x.test) x.body) xs w

pub elseif_lists_spelled : (before : ElseIfLists Note) (xs : List (ElseIf (List (Statement Note)))) (w : List Symbol)
    → spell_elseif_lists (elseif_lists_from before xs) w ≡ spell_elseif_lists before (all spell_elseif_list xs w)
elseif_lists_spelled before [] w = refl
elseif_lists_spelled before (x ∷ xs) w = elseif_lists_spelled (and_elseif_list before (view x.test) (list_view x.body)) xs w

pub cases_spelled : (before : Cases Note) (xs : List (Case (Statement Note))) (w : List Symbol)
    → spell_cases (cases_from before xs) w ≡ spell_cases before (all spell_case xs w)
cases_spelled before [] w = refl
cases_spelled before (x ∷ xs) w = cases_spelled (and_case before (spot_view x.spot) (optional view x.value) x.end (list_view x.body)) xs w

pub catches_spelled : (before : Catches Note) (xs : List (Catch (Statement Note))) (w : List Symbol)
    → spell_catches (catches_from before xs) w ≡ spell_catches before (all spell_catch xs w)
catches_spelled before [] w = refl
catches_spelled before (x ∷ xs) w = catches_spelled (and_catch before (names_view x.classes) (name_view x.variable) (list_view x.body)) xs w

-- ---- what may be absent

pub if_spelled : (at : Note) (test : Tree Note) (body : Statement Note) (parts : ElseIfs Note) (last : Option (Statement Note)) (w : List Symbol)
    → spell_statement (if_view at test body parts last) w ≡ spell_head word.If test (spell_statement body (spell_elseifs parts (spell_else last w)))
if_spelled at test body parts None w = refl
if_spelled at test body parts (Some s) w = refl

pub if_lists_spelled : (at : Note) (test : Tree Note) (body : Statements Note) (parts : ElseIfLists Note) (last : Option (List (Statement Note))) (w : List Symbol)
    → spell_statement (if_lists_view at test body parts last) w
    ≡ spell_head word.If test (punct mark.Colon ∷ spell_statements body (spell_elseif_lists parts (spell_else_list last (keyword word.EndIf ∷ punct mark.Semicolon ∷ w))))
if_lists_spelled at test body parts None w = refl
if_lists_spelled at test body parts (Some s) w = refl

pub try_spelled : (at : Note) (body : List (Statement Note)) (catches : Catches Note) (last : Option (List (Statement Note))) (w : List Symbol)
    → spell_statement (try_view at (list_view body) catches last) w ≡ keyword word.Try ∷ spell_braces body (spell_catches catches (spell_finally last w))
try_spelled at body catches None w = refl
try_spelled at body catches (Some s) w = refl

-- ---- declarations

names_more : (behind : Keyword) (before : Sequence (Name Note)) (x : Name Note) (xs : List (Name Note)) (w : List Symbol)
    → spell_names behind (sequence_from (then_also before x) xs) w ≡ keyword behind ∷ commas spell_name (sequence_from (then_also before x) xs) w
names_more behind before x [] w = refl
names_more behind before x (y ∷ ys) w = names_more behind (then_also before x) y ys w

-- names behind a word, where there are some
pub names_spelled : (behind : Keyword) (xs : List rust_name.Name) (w : List Symbol) → false ≡ (length xs == 0)
    → spell_names behind (names_view xs) w ≡ keyword behind ∷ commas spell_name (names_view xs) w
names_spelled behind [] w some = absurd (cc)
names_spelled behind (x ∷ xs) w some = names_more behind empty (name_view x) (map name_view xs) w

pub uses_spelled : (at : Note) (names : Sequence (Name Note)) (rules : Option (List rust_rule.Rule)) (w : List Symbol)
    → spell_member (uses_view at names rules) w ≡ keyword word.Use ∷ commas spell_name names (spell_rules (optional (sequence rule_view) rules) w)
uses_spelled at names None w = refl
uses_spelled at names (Some rules) w = refl
