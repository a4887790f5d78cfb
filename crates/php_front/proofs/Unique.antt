-- Bytes are at most one legal script, or are refused for at most one cause.
use Rattle.std.proofs.Common.{◌≡◌, ◌≢◌, ◌≤◌, ◌<◌, ◌⊎◌, inl, inr, ℕ, ◌+◌, Some, None, Ok, Err, List, [], ◌++◌, length, map, take, refl, sym, ◌∙◌, ap, subst, arith}
use Rattle.std.proofs.lemmas.List.{append-nil}
use Rattle.php_token.specs.Token.{Token}
use Rattle.php_lex.specs.Reading.{tokens}
use Rattle.php_ast.specs.Symbol.{Symbol, symbol}
use Rattle.php_ast.specs.expression.View.{Note}
use Rattle.php_ast.specs.declaration.Tree.{Script}
use Rattle.php_ast.specs.declaration.Placed.{script_form}
use Rattle.php_ast.specs.declaration.Nesting.{script_nests}
use Rattle.php_grammar.specs.Begins.{BeginsScript}
use Rattle.php_grammar.specs.TooDeep.{first_too_deep}
use Rattle.php_grammar.specs.expression.Machine.{Nothing}
use Rattle.php_grammar.specs.declaration.Laws.{SpellsScript, IsSpelledScript}
use Rattle.php_grammar.proofs.declaration.NotedLaws.{one_script_tree}
use Rattle.php_reader.specs.Line.{line_at}
use Rattle.php_reader.specs.declared.fail.ParseFail.{ParseFail}
use Rattle.php_reader.specs.declared.fail.ParseFail.TheVariants as parse_fail
use Rattle.php_parse_script.specs.Exact.{first_symbols, IsSyntax, IsTooDeep}
use Rattle.php_parse_script.specs.Exact as exact
use Rattle.php_front.specs.declared.fail.ReadFail.{ReadFail}
use Rattle.php_front.specs.declared.fail.ReadFail.TheVariants as fail
use Rattle.php_front.specs.Read.{IsParsed, IsScript, IsFaultAt, IsUnlexed, IsUnparsed, IsIllegal, IsRefused}
use Rattle.php_front.proofs.Beginnings.{order, GoesOn, first_go_on, all_go_on, respelled, begins_before, deep_there}
use Rattle.php_front.proofs.Faults.{one_fault, one_told, legal_or_faulty}

-- ---- tokens

one_lexing : (bytes : List ℕ) (found others : List Token) → tokens bytes ≡ Ok found → tokens bytes ≡ Ok others → found ≡ others
one_lexing bytes found others lexed other = let same : Ok found ≡ tokens bytes = sym lexed in cc

-- ---- refusals of the parser

-- a token that can't go on stands before no other token that is refused
before_syntax : (found : List Token) (k line j : ℕ) → IsSyntax found k line → k < j → j ≤ length found → BeginsScript (first_symbols found j) → ⊥
before_syntax found k line j s less within begins =
    s.no_further (omega arith) (begins_before (first_symbols found (k + 1)) (first_symbols found j) (first_go_on (k + 1) j found (omega arith)) begins)

one_syntax : (found : List Token) (k line j other : ℕ) → IsSyntax found k line → IsSyntax found j other → k ≡ j
one_syntax found k line j other s t = elim (order k j) [
  | inl same ↦ same
  | inr (inl less) ↦ absurd (before_syntax found k line j s less t.within t.begins)
  | inr (inr more) ↦ absurd (before_syntax found j other k t more s.within s.begins)
]

-- the place at which a script sinks is the one that was told
sinks_at : (found : List Token) (k line j : ℕ) (s : Script Nothing) (more : List Symbol) → IsTooDeep found k line → k < j →
    SpellsScript s (first_symbols found j ++ more) → first_too_deep 0 (script_nests s) ≡ Some k
sinks_at found k line j s more deep less spelled =
    let g : GoesOn (first_symbols found (k + 1)) (first_symbols found j) = first_go_on (k + 1) j found (omega arith) in
    deep.sinks s (g.more ++ more) (respelled s (first_symbols found (k + 1)) (first_symbols found j) more g spelled)

one_depth : (found : List Token) (k line j other : ℕ) → IsTooDeep found k line → IsTooDeep found j other → k ≤ j → k ≡ j
one_depth found k line j other deep deeper less =
    let b : BeginsScript (first_symbols found (j + 1)) = deeper.begins in
    let here : first_too_deep 0 (script_nests b.tree) ≡ Some k = sinks_at found k line (j + 1) b.tree b.rest deep (omega arith) b.spelled in
    let there : first_too_deep 0 (script_nests b.tree) ≡ Some j = deeper.sinks b.tree b.rest b.spelled in
    cc

-- a token that can't go on, and one that is too deep
never_both : (found : List Token) (k line j other : ℕ) → IsSyntax found k line → IsTooDeep found j other → ⊥
never_both found k line j other s deep = elim (order j k) [
  | inl same ↦ before_syntax found k line (j + 1) s (omega (arith, same)) (omega (arith, deep.within)) deep.begins
  | inr (inl less) ↦ sunk less
  | inr (inr more) ↦ before_syntax found k line (j + 1) s (omega (arith, more)) (omega (arith, deep.within)) deep.begins
]
  where
    sunk : j < k → ⊥
    sunk less =
        let b : BeginsScript (first_symbols found k) = s.begins in
        let there : first_too_deep 0 (script_nests b.tree) ≡ Some j = sinks_at found j other k b.tree b.rest deep less b.spelled in
        let kept : first_too_deep 0 (take k (script_nests b.tree)) ≡ Some j = deep_there 0 k j (script_nests b.tree) there less in
        let none : first_too_deep 0 (take k (script_nests b.tree)) ≡ None = s.shallow b.tree b.rest b.spelled in
        cc

one_refusal : (found : List Token) (a b : ParseFail) → a ≢ parse_fail.NoMemory → b ≢ parse_fail.NoMemory → exact.IsRefused found a → exact.IsRefused found b → a ≡ b
one_refusal found (parse_fail.Syntax k line) (parse_fail.Syntax j other) sure too s t =
    let same : k ≡ j = one_syntax found k line j other s t in
    let lines : line ≡ other = s.on_line ∙ ap (line_at found) same ∙ sym t.on_line in
    ap (λ n. parse_fail.Syntax n line) same ∙ ap (λ l. parse_fail.Syntax j l) lines
one_refusal found (parse_fail.Syntax k line) (parse_fail.TooDeep j other) sure too s deep = absurd (never_both found k line j other s deep)
one_refusal found (parse_fail.TooDeep k line) (parse_fail.Syntax j other) sure too deep s = absurd (never_both found j other k line s deep)
one_refusal found (parse_fail.TooDeep k line) (parse_fail.TooDeep j other) sure too deep deeper =
    let same : k ≡ j = elim (order k j) [
      | inl same ↦ same
      | inr (inl less) ↦ one_depth found k line j other deep deeper (omega (arith, less))
      | inr (inr more) ↦ sym (one_depth found j other k line deeper deep (omega (arith, more)))
    ] in
    let lines : line ≡ other = deep.on_line ∙ ap (line_at found) same ∙ sym deeper.on_line in
    ap (λ n. parse_fail.TooDeep n line) same ∙ ap (λ l. parse_fail.TooDeep j l) lines
one_refusal found parse_fail.NoMemory b sure too s t = absurd (sure refl)
one_refusal found (parse_fail.Syntax k line) parse_fail.NoMemory sure too s t = absurd (too refl)
one_refusal found (parse_fail.TooDeep k line) parse_fail.NoMemory sure too s t = absurd (too refl)

-- a script that isn't nested too deep is not refused
begun : (found : List Token) (s : Script Nothing) (j : ℕ) → SpellsScript s (map symbol found) → BeginsScript (first_symbols found j)
begun found s j spelled = let g = all_go_on j found in record { tree = s; rest = g.more; spelled = (spelled.0, spelled.1 ∙ g.is) }

spelled_or_syntax : (found : List Token) (s : Script Nothing) (k line : ℕ) → SpellsScript s (map symbol found) → IsSyntax found k line → ⊥
spelled_or_syntax found s k line spelled syntax = elim (order k (length found)) [
  | inl same ↦ syntax.unspelled same s spelled
  | inr (inl less) ↦ syntax.no_further less (begun found s (k + 1) spelled)
  | inr (inr more) ↦ absurd (omega (arith, more, syntax.within))
]

spelled_or_deep : (found : List Token) (s : Script Nothing) (k line : ℕ) → SpellsScript s (map symbol found) → first_too_deep 0 (script_nests s) ≡ None → IsTooDeep found k line → ⊥
spelled_or_deep found s k line spelled shallow deep =
    let g = all_go_on (k + 1) found in
    let there : first_too_deep 0 (script_nests s) ≡ Some k = deep.sinks s g.more (spelled.0, spelled.1 ∙ g.is) in
    cc

spelled_or_refused : (found : List Token) (script : Script Note) (failure : ParseFail) → IsSpelledScript found script →
    first_too_deep 0 (script_nests (script_form script)) ≡ None → failure ≢ parse_fail.NoMemory → exact.IsRefused found failure → ⊥
spelled_or_refused found script (parse_fail.Syntax k line) spelled shallow sure refused = spelled_or_syntax found (script_form script) k line spelled.spelled refused
spelled_or_refused found script (parse_fail.TooDeep k line) spelled shallow sure refused = spelled_or_deep found (script_form script) k line spelled.spelled shallow refused
spelled_or_refused found script parse_fail.NoMemory spelled shallow sure refused = sure refl

-- ---- the whole

parsed_and_unparsed : (bytes : List ℕ) (found : List Token) (script : Script Note) (failure : ParseFail) → IsParsed bytes found script → IsUnparsed bytes failure → ⊥
parsed_and_unparsed bytes found script failure parsed un =
    let P : List Token → Type 0 = λ f. exact.IsRefused f failure in
    spelled_or_refused found script failure parsed.spelled parsed.shallow un.is_refusal (subst P (one_lexing bytes un.found found un.lexed parsed.lexed) un.refused)

pub one_parsing : (bytes : List ℕ) (found others : List Token) (script other : Script Note) → IsParsed bytes found script → IsParsed bytes others other → (found ≡ others) × (script ≡ other)
one_parsing bytes found others script other a b =
    let same : found ≡ others = one_lexing bytes found others a.lexed b.lexed in
    let P : List Token → Type 0 = λ f. IsSpelledScript f other in
    (same, one_script_tree found script other a.spelled (subst P (sym same) b.spelled))

pub one_legal : (bytes : List ℕ) (found others : List Token) (script other : Script Note) → IsScript bytes found script → IsScript bytes others other → (found ≡ others) × (script ≡ other)
one_legal bytes found others script other a b = one_parsing bytes found others script other a.parsed b.parsed

pub one_cause : (bytes : List ℕ) (a b : ReadFail) → IsRefused bytes a → IsRefused bytes b → a ≡ b
one_cause bytes (fail.Lex a) (fail.Lex b) is other = let told : tokens bytes ≡ Err a = is.told in let same : tokens bytes ≡ Err b = other.told in let faults : a ≡ b = cc in ap fail.Lex faults
one_cause bytes (fail.Lex a) (fail.Parse b) is other = let told = is.told in let lexed = other.lexed in absurd cc
one_cause bytes (fail.Lex a) (fail.Name b) is other = let told = is.told in let lexed = other.parsed.lexed in absurd cc
one_cause bytes (fail.Parse a) (fail.Lex b) is other = let told = other.told in let lexed = is.lexed in absurd cc
one_cause bytes (fail.Parse a) (fail.Parse b) is other =
    let P : List Token → Type 0 = λ f. exact.IsRefused f b in
    ap fail.Parse (one_refusal is.found a b is.is_refusal other.is_refusal is.refused (subst P (one_lexing bytes other.found is.found other.lexed is.lexed) other.refused))
one_cause bytes (fail.Parse a) (fail.Name b) is other = absurd (parsed_and_unparsed bytes other.found other.script a other.parsed is)
one_cause bytes (fail.Name a) (fail.Lex b) is other = let told = other.told in let lexed = is.parsed.lexed in absurd cc
one_cause bytes (fail.Name a) (fail.Parse b) is other = absurd (parsed_and_unparsed bytes is.found is.script b is.parsed other)
one_cause bytes (fail.Name a) (fail.Name b) is other =
    let same = one_parsing bytes other.found is.found other.script is.script other.parsed is.parsed in
    let P : List Token → Type 0 = λ f. IsFaultAt f other.script other.fault in
    let Q : Script Note → Type 0 = λ s. IsFaultAt is.found s other.fault in
    let faults : is.fault ≡ other.fault = one_fault is.found is.script is.fault other.fault is.first (subst Q same.1 (subst P same.0 other.first)) in
    ap fail.Name (one_told a b (is.told ∙ ap Some faults ∙ sym other.told))
one_cause bytes fail.NoMemory b is other = absurd is
one_cause bytes (fail.Lex a) fail.NoMemory is other = absurd other
one_cause bytes (fail.Parse a) fail.NoMemory is other = absurd other
one_cause bytes (fail.Name a) fail.NoMemory is other = absurd other

pub never_refused : (bytes : List ℕ) (found : List Token) (script : Script Note) (cause : ReadFail) → IsScript bytes found script → IsRefused bytes cause → ⊥
never_refused bytes found script (fail.Lex a) is refused = let told = refused.told in let lexed = is.parsed.lexed in cc
never_refused bytes found script (fail.Parse a) is refused = parsed_and_unparsed bytes found script a is.parsed refused
never_refused bytes found script (fail.Name a) is refused =
    let same = one_parsing bytes refused.found found refused.script script refused.parsed is.parsed in
    let P : Script Note → Type 0 = λ s. IsFaultAt refused.found s refused.fault in
    legal_or_faulty refused.found script refused.fault is.legal (subst P same.1 refused.first)
never_refused bytes found script fail.NoMemory is refused = refused
