-- From what the parser does to what its answers say of the tokens.
use Rattle.std.proofs.Common.{◌≡◌, ◌≢◌, ◌≤◌, ◌<◌, true, false, ℕ, suc, ◌+◌, Some, None, List, [], ◌∷◌, ◌++◌, map, take, drop, length, refl, sym, ◌∙◌, ap, subst, arith, append_assoc, length-append, ltb-true, ltb-false, Bool, zero}
use Rattle.std.specs.Prelude.{nat_lt}
use Rattle.std.proofs.lemmas.List.{append-nil, length-map, length-drop, length-take, take-append-drop, map-append}
use Rattle.php_token.specs.Token.{Token}
use Rattle.php_ast.specs.Symbol.{Symbol, symbol}
use Rattle.php_ast.specs.declared.script.Script as rust_script
use Rattle.php_ast.specs.expression.View.{Note}
use Rattle.php_ast.specs.expression.Placed.{no_notes, notes_of}
use Rattle.php_ast.specs.statement.Tree.{empty}
use Rattle.php_ast.specs.declaration.Tree.{Script}
use Rattle.php_ast.specs.declaration.Placed.{noted_script, script_form}
use Rattle.php_ast.specs.declaration.Nesting.{script_nests}
use Rattle.php_ast.specs.declaration.View.{script_view}
use Rattle.php_grammar.specs.Begins.{BeginsScript}
use Rattle.php_grammar.specs.TooDeep.{first_too_deep}
use Rattle.php_grammar.specs.expression.Machine.{Nothing}
use Rattle.php_grammar.specs.declaration.ScriptMachine.{due_item}
use Rattle.php_grammar.specs.declaration.Laws.{SpellsScript, IsSpelledScript}
use Rattle.php_grammar.proofs.declaration.Notes.{script_again}
use Rattle.php_grammar.proofs.declaration.NotedLaws.{one_script_tree}
use Rattle.php_grammar.proofs.declaration.ScriptBack.{one_script}
use Rattle.php_grammar_laws.specs.Walks.{OutcomeOf, whole, short, deep, walk_script}
use Rattle.php_grammar_laws.specs.Ends.{NoFurther, EndsWhole, EndsShort, EndsDeep, EndsAs, ScriptWalkEnds}
use Rattle.php_reader.specs.declared.fail.Stop.{Stop}
use Rattle.php_reader.specs.declared.fail.Stop.TheVariants.{Syntax, TooDeep, NoMemory}
use Rattle.php_reader.specs.declared.fail.ParseFail.{ParseFail}
use Rattle.php_reader.specs.Seen.{rest}
use Rattle.php_reader.specs.Line.{IsLined, line_at}
use Rattle.php_parse_script.specs.Walk.{StopsBefore}
use Rattle.php_parse_script.specs.Answer.{StopsAt, Fails, FoundScript}
use Rattle.php_parse_script.specs.Exact.{first_symbols, IsRead, IsSyntax, IsTooDeep, IsRefused}
use Rattle.php_parse_script.proofs.Blanks.{blank_script}
use Rattle.php_parse_script.proofs.Depths.{none_before, none_up_to, Within, begins_longer}

abbrev Whole : List Symbol → Script Nothing → List Symbol → Type 0
Whole w a v = EndsWhole SpellsScript BeginsScript script_nests 0 w a v

abbrev Short : List Symbol → List Symbol → Type 0
Short w v = EndsShort SpellsScript BeginsScript script_nests 0 w v

abbrev Deep : List Symbol → List Symbol → Type 0
Deep w v = EndsDeep SpellsScript BeginsScript script_nests 0 w v

abbrev Ends : List Symbol → OutcomeOf (Script Nothing) → Type 0
Ends w o = EndsAs SpellsScript BeginsScript script_nests 0 w o

-- ---- lists

same_end : (v w u : List Symbol) → v ++ u ≡ w ++ u → v ≡ w
same_end [] [] u h = refl
same_end [] (t ∷ w) u h = absurd (omega (arith, ap length h, length-append w u))
same_end (t ∷ v) [] u h = absurd (omega (arith, ap length h, length-append v u))
same_end (t ∷ v) (x ∷ w) u h = let first : t ≡ x = cc in let behind : v ++ u ≡ w ++ u = cc in ap (λ y. y ∷ v) first ∙ ap (λ ys. x ∷ ys) (same_end v w u behind)

-- ---- the first tokens

split_at : (tokens : List Token) (k : ℕ) → rest tokens 0 ≡ first_symbols tokens k ++ rest tokens k
split_at tokens k = ap (map symbol) (sym (take-append-drop k tokens)) ∙ map-append symbol (take k tokens) (drop k tokens)

first_is : (tokens : List Token) (k : ℕ) (front v : List Symbol) → rest tokens 0 ≡ front ++ v → v ≡ rest tokens k → front ≡ first_symbols tokens k
first_is tokens k front v split is = same_end front (first_symbols tokens k) (rest tokens k) (ap (λ u. front ++ u) (sym is) ∙ sym split ∙ split_at tokens k)

rest_length : (tokens : List Token) (k : ℕ) → k ≤ length tokens → length (rest tokens k) + k ≡ length tokens
rest_length tokens k within = omega (arith, length-map (drop k tokens) symbol, length-drop k tokens)

first_length : (tokens : List Token) (k : ℕ) → k ≤ length tokens → length (first_symbols tokens k) ≡ k
first_length tokens k within = omega (arith, length-map (take k tokens) symbol, length-take k tokens)

next_symbols : (tokens : List Token) (k : ℕ) (t : Symbol) (u : List Symbol) → rest tokens k ≡ t ∷ u → first_symbols tokens (suc k) ≡ first_symbols tokens k ++ t ∷ []
next_symbols [] zero t u h = cc
next_symbols [] (suc k) t u h = cc
next_symbols (x ∷ xs) zero t u h = let same : symbol x ≡ t = cc in ap (λ y. y ∷ []) same
next_symbols (x ∷ xs) (suc k) t u h = ap (λ z. symbol x ∷ z) (next_symbols xs k t u h)

with_next : (tokens : List Token) (k : ℕ) (t : Symbol) (u : List Symbol) → rest tokens k ≡ t ∷ u → first_symbols tokens (k + 1) ≡ first_symbols tokens k ++ t ∷ []
with_next tokens k t u h = let more : k + 1 ≡ suc k = omega arith in ap (first_symbols tokens) more ∙ next_symbols tokens k t u h

stands : (tokens : List Token) (k : ℕ) (t : Symbol) (u : List Symbol) → rest tokens k ≡ t ∷ u → k ≤ length tokens → k < length tokens
stands tokens k t u is within = omega (arith, ap length is, rest_length tokens k within)

none_left : (tokens : List Token) (k : ℕ) → k ≡ length tokens → rest tokens k ≡ []
none_left tokens k is = empty_by (rest tokens k) (omega (arith, rest_length tokens k (omega (arith, is)), is))
  where
    empty_by : (u : List Symbol) → length u ≡ 0 → u ≡ []
    empty_by [] h = refl
    empty_by (t ∷ u) h = absurd (omega (arith, h))

-- the first of some symbols
record First (v : List Symbol) : Type 0 where
  token : Symbol
  more : List Symbol
  is : v ≡ token ∷ more

first_of : (v : List Symbol) → 0 < length v → First v
first_of [] h = absurd (omega (arith, h))
first_of (t ∷ v) h = record { token = t; more = v; is = refl }

-- ---- no token is too deep, in whatever script they begin

begins_with : (s : Script Nothing) (front : List Symbol) (t : Symbol) (u w : List Symbol) → w ≡ front ++ t ∷ u → SpellsScript s w → BeginsScript (front ++ t ∷ [])
begins_with s front t u w split spells = record { tree = s; rest = u; spelled = (spells.0, spells.1 ∙ split ∙ sym (append_assoc front (t ∷ []) u)) }

-- one that is too deep stands behind them
deep_by : (b : Bool) (a s : Script Nothing) (front more v : List Symbol) (e : Deep (front ++ more) v) → nat_lt (length e.front) (length front) ≡ b → SpellsScript a front → first_too_deep 0 (script_nests a) ≡ None
    → SpellsScript s (front ++ more) → first_too_deep 0 (take (length front) (script_nests s)) ≡ None
deep_by true a s front more v e less spelled shallow spells =
    let split : e.front ++ e.token ∷ e.rest ≡ front ++ more = ap (λ u. e.front ++ u) (sym e.here) ∙ sym e.split in
    let r : Within front e.front e.token = begins_longer e.front front e.token e.rest more split (ltb-true (length e.front) (length front) less) in
    let sunk : first_too_deep 0 (script_nests a) ≡ Some (length e.front) = e.sinks a r.between (spelled.0, spelled.1 ∙ r.is) in
    let wrong : Some (length e.front) ≡ None = sym sunk ∙ shallow in cc
deep_by false a s front more v e less spelled shallow spells =
    let sunk : first_too_deep 0 (script_nests s) ≡ Some (length e.front) =
    e.sinks s e.rest (spells.0, spells.1 ∙ e.split ∙ ap (λ u. e.front ++ u) e.here ∙ sym (append_assoc e.front (e.token ∷ []) e.rest)) in
    none_up_to 0 (length front) (length e.front) (script_nests s) sunk (omega (arith, ltb-false (length e.front) (length front) less))

further_by : (s : Script Nothing) (front v w : List Symbol) → NoFurther BeginsScript front v → w ≡ front ++ v → v ≢ [] → SpellsScript s w → ⊥
further_by s front [] w over split some spells = some refl
further_by s front (t ∷ u) w over split some spells = over t u refl (begins_with s front t u w split spells)

steady_by : (o : OutcomeOf (Script Nothing)) (a s : Script Nothing) (front more : List Symbol) → Ends (front ++ more) o → SpellsScript a front → first_too_deep 0 (script_nests a) ≡ None
    → SpellsScript s (front ++ more) → first_too_deep 0 (take (length front) (script_nests s)) ≡ None
steady_by (whole b []) a s front more e spelled shallow spells =
    let same : s ≡ b = one_script s b (front ++ more) spells (e.spelled.0, e.spelled.1 ∙ sym (append-nil e.front) ∙ sym e.split) in
    none_before 0 (length front) (script_nests s) (ap (λ x. first_too_deep 0 (script_nests x)) same ∙ e.shallow)
steady_by (whole b (t ∷ u)) a s front more e spelled shallow spells = absurd (further_by s e.front (t ∷ u) (front ++ more) e.no_further e.split (λ h. cc) spells)
steady_by (short []) a s front more e spelled shallow spells = absurd (e.unspelled s (spells.0, spells.1 ∙ e.split ∙ append-nil e.front))
steady_by (short (t ∷ u)) a s front more e spelled shallow spells = absurd (further_by s e.front (t ∷ u) (front ++ more) e.no_further e.split (λ h. cc) spells)
steady_by (deep v) a s front more e spelled shallow spells = deep_by (nat_lt (length e.front) (length front)) a s front more v e refl spelled shallow spells

steady : (law : ScriptWalkEnds) (a s : Script Nothing) (front more : List Symbol) → SpellsScript a front → first_too_deep 0 (script_nests a) ≡ None → SpellsScript s (front ++ more)
    → first_too_deep 0 (take (length front) (script_nests s)) ≡ None
steady law a s front more = steady_by (walk_script 128 (due_item empty) (front ++ more)) a s front more (law 128 0 (front ++ more) refl)

-- ---- answers

form_is : (tokens : List Token) (s : Script Note) (f : Script Nothing) → s ≡ noted_script (notes_of tokens) f → script_form s ≡ f
form_is tokens s f shown = ap script_form shown ∙ script_again (notes_of tokens) no_notes f ∙ blank_script f

pub is_read : (law : ScriptWalkEnds) (tokens : List Token) (s : rust_script.Script) → FoundScript 129 tokens s.items → IsRead tokens s
is_read law tokens s found =
    let e : Whole (rest tokens 0) found.form [] = subst (Ends (rest tokens 0)) (found.comes 128 refl) (law 128 0 (rest tokens 0) refl) in
    let form : script_form (script_view s) ≡ found.form = form_is tokens (script_view s) found.form found.shown in
    let all : e.front ≡ map symbol tokens = sym (append-nil e.front) ∙ sym e.split in
    let spelled : IsSpelledScript tokens (script_view s) = record {
      spelled = subst (λ f. SpellsScript f (map symbol tokens)) (sym form) (e.spelled.0, e.spelled.1 ∙ all);
      placed = ap (noted_script (notes_of tokens)) found.shown ∙ script_again (notes_of tokens) (notes_of tokens) found.form ∙ sym found.shown;
    } in
    record {
      spelled = spelled;
      only = λ a p. one_script_tree tokens a (script_view s) p spelled;
      shallow = ap (λ f. first_too_deep 0 (script_nests f)) form ∙ e.shallow;
    }

-- from what is known of the tokens before a place
syntax_by : (tokens : List Token) (k : ℕ) (front : List Symbol) → front ≡ first_symbols tokens k → k ≤ length tokens → BeginsScript front → NoFurther BeginsScript front (rest tokens k)
    → (rest tokens k ≡ [] → (s : Script Nothing) → SpellsScript s front → ⊥)
    → ((s : Script Nothing) (more : List Symbol) → SpellsScript s (front ++ more) → first_too_deep 0 (take (length front) (script_nests s)) ≡ None) → IsSyntax tokens k (line_at tokens k)
syntax_by tokens k front is within begins over unspelled shallow = record {
  within = within;
  begins = subst BeginsScript is begins;
  no_further = λ less b.
      let f = first_of (rest tokens k) (omega (arith, rest_length tokens k within, less)) in
      over f.token f.more f.is (subst BeginsScript (with_next tokens k f.token f.more f.is ∙ ap (λ u. u ++ f.token ∷ []) (sym is)) b);
  unspelled = λ last s spells.
      unspelled (none_left tokens k last) s
      (spells.0, spells.1 ∙ split_at tokens k ∙ ap (λ u. first_symbols tokens k ++ u) (none_left tokens k last) ∙ append-nil (first_symbols tokens k) ∙ sym is);
  shallow = λ s more spells.
      let len : length front ≡ k = ap length is ∙ first_length tokens k within in
      ap (λ j. first_too_deep 0 (take j (script_nests s))) (sym len) ∙ shallow s more (spells.0, spells.1 ∙ ap (λ u. u ++ more) (sym is));
  on_line = refl;
}

begun_by : (s : Script Nothing) (w : List Symbol) → SpellsScript s w → BeginsScript w
begun_by s w spells = record { tree = s; rest = []; spelled = (spells.0, spells.1 ∙ sym (append-nil w)) }

syntax_of : (law : ScriptWalkEnds) (tokens : List Token) (k : ℕ) (o : OutcomeOf (Script Nothing)) → Ends (rest tokens 0) o → StopsBefore false (rest tokens k) o → k ≤ length tokens → IsSyntax tokens k (line_at tokens k)
syntax_of law tokens k (short v) e is within =
    syntax_by tokens k e.front (first_is tokens k e.front v e.split is) within e.begun (subst (NoFurther BeginsScript e.front) is e.no_further) (λ none. e.unspelled) e.shallow
syntax_of law tokens k (whole a v) e is within =
    syntax_by tokens k e.front (first_is tokens k e.front v e.split is.0) within (begun_by a e.front e.spelled) (subst (NoFurther BeginsScript e.front) is.0 e.no_further) (λ none. absurd (is.1 none))
    (λ s more. steady law a s e.front more e.spelled e.shallow)
syntax_of law tokens k (deep v) e is within = absurd is

is_syntax : (law : ScriptWalkEnds) (tokens : List Token) (k : ℕ) → StopsAt false 129 (due_item empty) (rest tokens 0) tokens 0 k → IsSyntax tokens k (line_at tokens k)
is_syntax law tokens k stops = syntax_of law tokens k (walk_script 128 (due_item empty) (rest tokens 0)) (law 128 0 (rest tokens 0) refl) (stops.halts.same 128 refl) stops.within

deep_of : (tokens : List Token) (k : ℕ) (o : OutcomeOf (Script Nothing)) → Ends (rest tokens 0) o → StopsBefore true (rest tokens k) o → k ≤ length tokens → IsTooDeep tokens k (line_at tokens k)
deep_of tokens k (whole a v) e is within = absurd is
deep_of tokens k (short v) e is within = absurd is
deep_of tokens k (deep v) e is within =
    let front : e.front ≡ first_symbols tokens k = first_is tokens k e.front v e.split is in
    let here : rest tokens k ≡ e.token ∷ e.rest = sym is ∙ e.here in
    let more : first_symbols tokens (k + 1) ≡ e.front ++ e.token ∷ [] = with_next tokens k e.token e.rest here ∙ ap (λ u. u ++ e.token ∷ []) (sym front) in
    record {
      within = stands tokens k e.token e.rest here within;
      begins = subst BeginsScript (sym more) e.begun;
      sinks = λ s behind spells. e.sinks s behind (spells.0, spells.1 ∙ ap (λ u. u ++ behind) more) ∙ ap Some (ap length front ∙ first_length tokens k within);
      on_line = refl;
    }

is_too_deep : (law : ScriptWalkEnds) (tokens : List Token) (k : ℕ) → StopsAt true 129 (due_item empty) (rest tokens 0) tokens 0 k → IsTooDeep tokens k (line_at tokens k)
is_too_deep law tokens k stops = deep_of tokens k (walk_script 128 (due_item empty) (rest tokens 0)) (law 128 0 (rest tokens 0) refl) (stops.halts.same 128 refl) stops.within

pub is_refused : (law : ScriptWalkEnds) (tokens : List Token) (e : Stop) (fail : ParseFail) → Fails 129 (due_item empty) (rest tokens 0) tokens 0 e → IsLined tokens e fail → IsRefused tokens fail
is_refused law tokens (Syntax k) fail fails is = subst (IsRefused tokens) (sym is) (is_syntax law tokens k fails)
is_refused law tokens (TooDeep k) fail fails is = subst (IsRefused tokens) (sym is) (is_too_deep law tokens k fails)
is_refused law tokens NoMemory fail fails is = subst (IsRefused tokens) (sym is) tt
