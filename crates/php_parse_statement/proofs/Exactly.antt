-- From what the parser does to what its answers say of the tokens.
use Rattle.std.proofs.Common.{◌≡◌, ◌≤◌, ◌<◌, ℕ, ◌+◌, ◌-◌, Some, List, [], ◌∷◌, ◌++◌, take, length, refl, sym, ◌∙◌, ap, subst, arith, append_assoc}
use Rattle.std.proofs.lemmas.List.{append-nil}
use Rattle.php_token.specs.Token.{Token}
use Rattle.php_ast.specs.Symbol.{Symbol}
use Rattle.php_ast.specs.expression.View.{Note}
use Rattle.php_ast.specs.expression.Placed.{no_notes, notes_of}
use Rattle.php_ast.specs.statement.Tree.{Statement}
use Rattle.php_ast.specs.statement.Placed.{noted_statement, statement_form}
use Rattle.php_ast.specs.statement.Nesting.{nests_statement}
use Rattle.php_ast.specs.statement.View.{statement_view}
use Rattle.php_grammar.specs.Begins.{BeginsStatement}
use Rattle.php_grammar.specs.TooDeep.{nesting_limit, first_too_deep}
use Rattle.php_grammar.specs.expression.Machine.{Nothing}
use Rattle.php_grammar.specs.statement.Laws.{SpellsStatement, IsSpelledStatement}
use Rattle.php_grammar.proofs.statement.Notes.{statement_again}
use Rattle.php_grammar.proofs.declaration.NotedLaws.{one_statement_tree}
use Rattle.php_grammar_laws.specs.Ends.{NoFurther, EndsWhole, EndsShort, EndsDeep, EndsAs}
use Rattle.php_grammar_laws.proofs.Knowns.{statement_walk_ends}
use Rattle.php_reader.specs.declared.fail.Stop.{Stop}
use Rattle.php_reader.specs.declared.fail.Stop.TheVariants.{Syntax, TooDeep, NoMemory}
use Rattle.php_reader.specs.declared.fail.ParseFail.{ParseFail}
use Rattle.php_reader.specs.Seen.{rest}
use Rattle.php_reader.specs.Line.{IsLined, line_at}
use Rattle.php_parse_expression.specs.Exact.{between, symbols}
use Rattle.php_parse_expression.proofs.Between.{split, symbols_length, more_between, first_of, stands, with_next}
use Rattle.php_parse_expression.proofs.Wholes.{cancel}
use Rattle.php_parse_simple.specs.declared.read.ReadStatement.{ReadStatement}
use Rattle.php_parse_statement.specs.Rows.{Outermost, StopsAll}
use Rattle.php_parse_statement.specs.Exact.{Reaches, IsRead, IsSyntax, IsTooDeep, IsRefused}
use Rattle.php_parse_statement.proofs.Blanks.{blank_statement}

abbrev depths : Statement Nothing → List ℕ
depths a = nests_statement a 0 []

-- ---- the tokens between two places

-- what was read up to a place are the symbols up to there
front_is : (tokens : List Token) (at k : ℕ) (front : List Symbol) → at ≤ k → rest tokens at ≡ front ++ rest tokens k → front ≡ symbols tokens at k
front_is tokens at k front h is = cancel front (symbols tokens at k) (rest tokens k) (sym is ∙ split tokens at k h)

-- what begins a statement does so with fewer symbols
fewer : (w x : List Symbol) → BeginsStatement (w ++ x) → BeginsStatement w
fewer w x b = record { tree = b.tree; rest = x ++ b.rest; spelled = (b.spelled.0, b.spelled.1 ∙ append_assoc w x b.rest) }

one_further : (w : List Symbol) (t : Symbol) (x : List Symbol) → BeginsStatement (w ++ t ∷ x) → BeginsStatement (w ++ t ∷ [])
one_further w t x b = fewer (w ++ t ∷ []) x (subst BeginsStatement (sym (append_assoc w (t ∷ []) x)) b)

reaches : (tokens : List Token) (at k : ℕ) → at ≤ k → k ≤ length tokens → BeginsStatement (symbols tokens at k) → NoFurther BeginsStatement (symbols tokens at k) (rest tokens k) → Reaches tokens at k
reaches tokens at k ahead within begins no_further = record {
  ahead = ahead;
  within = within;
  begins = begins;
  most = λ j less in_range b.
      let f = first_of (rest tokens k) (symbols tokens k j) (rest tokens j) (split tokens k j (omega arith)) (omega (arith, symbols_length tokens k j (omega arith) in_range)) in
      no_further f.token (f.more ++ rest tokens j) f.front
      (one_further (symbols tokens at k) f.token f.more (subst BeginsStatement (more_between tokens at k j ahead (omega arith) ∙ ap (λ z. symbols tokens at k ++ z) f.here) b));
}

form_is : (tokens : List Token) (at : ℕ) (s : Statement Note) (f : Statement Nothing) → s ≡ noted_statement (notes_of tokens) at f → statement_form s ≡ f
form_is tokens at s f shown = ap statement_form shown ∙ statement_again (notes_of tokens) no_notes at 0 f ∙ blank_statement 0 f

-- ---- answers

read_by : (depth : ℕ) (tokens : List Token) (at : ℕ) (r : ReadStatement) (form : Statement Nothing) → statement_view r.statement ≡ noted_statement (notes_of tokens) at form → at < r.next → r.next ≤ length tokens
    → EndsWhole SpellsStatement BeginsStatement depths depth (rest tokens at) form (rest tokens r.next) → IsRead depth tokens at r.statement r.next
read_by depth tokens at r form shown ahead within e =
    let at_k : at ≤ r.next = omega (arith, ahead) in
    let front : e.front ≡ symbols tokens at r.next = front_is tokens at r.next e.front at_k e.split in
    let spells : SpellsStatement form (symbols tokens at r.next) = subst (SpellsStatement form) front e.spelled in
    let same : statement_form (statement_view r.statement) ≡ form = form_is tokens at (statement_view r.statement) form shown in
    let spelled : IsSpelledStatement tokens at (statement_view r.statement) (between tokens at r.next) = record {
      spelled = subst (λ s. SpellsStatement s (symbols tokens at r.next)) (sym same) spells;
      placed = ap (noted_statement (notes_of tokens) at) shown ∙ statement_again (notes_of tokens) (notes_of tokens) at at form ∙ sym shown;
    } in
    record {
      reaches = reaches tokens at r.next at_k within
          (record { tree = form; rest = []; spelled = (spells.0, spells.1 ∙ sym (append-nil (symbols tokens at r.next))) })
          (subst (λ w. NoFurther BeginsStatement w (rest tokens r.next)) front e.no_further);
      spelled = spelled;
      only = λ a p. one_statement_tree tokens at (between tokens at r.next) a (statement_view r.statement) p spelled;
      shallow = ap (λ s. first_too_deep depth (depths s)) same ∙ e.shallow;
    }

pub is_read : (depth n : ℕ) (tokens : List Token) (at : ℕ) (r : ReadStatement) → n + depth ≡ nesting_limit → Outermost n tokens at r → IsRead depth tokens at r.statement r.next
is_read depth n tokens at r sum found =
    read_by depth tokens at r found.form found.shown found.ahead found.within
    (subst (EndsAs SpellsStatement BeginsStatement depths depth (rest tokens at)) found.reads (statement_walk_ends n depth (rest tokens at) sum))

syntax_by : (depth : ℕ) (tokens : List Token) (at k : ℕ) → at ≤ k → k ≤ length tokens → EndsShort SpellsStatement BeginsStatement depths depth (rest tokens at) (rest tokens k) → IsSyntax depth tokens at k (line_at tokens k)
syntax_by depth tokens at k ahead within e =
    let front : e.front ≡ symbols tokens at k = front_is tokens at k e.front ahead e.split in
    record {
      reaches = reaches tokens at k ahead within (subst BeginsStatement front e.begun) (subst (λ w. NoFurther BeginsStatement w (rest tokens k)) front e.no_further);
      unspelled = λ s spells. e.unspelled s (subst (SpellsStatement s) (sym front) spells);
      shallow = λ s more spells. ap (λ z. first_too_deep depth (take z (depths s))) (sym (symbols_length tokens at k ahead within) ∙ ap length (sym front))
          ∙ e.shallow s more (subst (λ w. SpellsStatement s (w ++ more)) (sym front) spells);
      on_line = refl;
    }

deep_by : (depth : ℕ) (tokens : List Token) (at k : ℕ) → at ≤ k → k ≤ length tokens → EndsDeep SpellsStatement BeginsStatement depths depth (rest tokens at) (rest tokens k) → IsTooDeep depth tokens at k (line_at tokens k)
deep_by depth tokens at k ahead within e =
    let front : e.front ≡ symbols tokens at k = front_is tokens at k e.front ahead e.split in
    let inside : k < length tokens = stands tokens k e.token e.rest e.here within in
    let more : e.front ++ e.token ∷ [] ≡ symbols tokens at (k + 1) = ap (λ w. w ++ e.token ∷ []) front ∙ sym (with_next tokens at k e.token e.rest ahead inside e.here) in
    record {
      ahead = ahead;
      within = inside;
      begins = subst BeginsStatement more e.begun;
      sinks = λ s rest_of spells. e.sinks s rest_of (subst (λ w. SpellsStatement s (w ++ rest_of)) (sym more) spells) ∙ ap Some (ap length front ∙ symbols_length tokens at k ahead within);
      on_line = refl;
    }

pub is_refused : (depth n : ℕ) (tokens : List Token) (at : ℕ) (e : Stop) (fail : ParseFail) → n + depth ≡ nesting_limit → StopsAll n tokens at e → IsLined tokens e fail → IsRefused depth tokens at fail
is_refused depth n tokens at (Syntax k) fail sum stops is =
    subst (IsRefused depth tokens at) (sym is)
    (syntax_by depth tokens at k stops.ahead stops.within (subst (EndsAs SpellsStatement BeginsStatement depths depth (rest tokens at)) stops.halts (statement_walk_ends n depth (rest tokens at) sum)))
is_refused depth n tokens at (TooDeep k) fail sum stops is =
    subst (IsRefused depth tokens at) (sym is)
    (deep_by depth tokens at k stops.ahead stops.within (subst (EndsAs SpellsStatement BeginsStatement depths depth (rest tokens at)) stops.halts (statement_walk_ends n depth (rest tokens at) sum)))
is_refused depth n tokens at NoMemory fail sum stops is = subst (IsRefused depth tokens at) (sym is) tt
