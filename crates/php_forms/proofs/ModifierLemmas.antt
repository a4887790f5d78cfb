-- What the check of words before a member meets is the first of those that don't go together with one before.
use Rattle.std.proofs.Common.{◌≡◌, Bool, true, false, ◌||◌, Option, List, [], ◌∷◌, ◌++◌, map, refl, sym, ◌∙◌, ap}
use Rattle.php_ast.specs.declared.declaration.ModifierWord.{ModifierWord}
use Rattle.php_ast.specs.declared.declaration.ModifierWord.TheVariants as modifier
use Rattle.php_ast.specs.expression.View.{Note}
use Rattle.php_ast.specs.declaration.Tree.{Modifier}
use Rattle.php_legality.specs.declared.kind.Kind.TheVariants as kind
use Rattle.php_legality.specs.declared.fault.Fault.{Fault}
use Rattle.php_legality.specs.Lists.{is_any, where_true, repeated_behind}
use Rattle.php_legality.specs.First.{fault_at, first_from}
use Rattle.php_legality.specs.Rows.{clash, clashing, is_abstract_word}
use Rattle.php_legality.proofs.FirstLemmas.{first_from_joined}
use Rattle.php_legality.proofs.HasLemmas.{map_joined}
use Rattle.php_places.specs.Over.{over}
use Rattle.php_places.specs.Met.{where_bad}
use Rattle.php_forms.specs.declared.modifiers.Words.{Words}
use Rattle.php_forms.specs.declared.modifiers.Worded.{Worded}
use Rattle.php_forms.specs.Modifiers.{no_words, clashes, with_word, before_words, met_word, met_modifiers}

or_true : (b : Bool) → (b || true) ≡ true
or_true true = refl
or_true false = refl

or_false : (b : Bool) → (b || false) ≡ b
or_false true = refl
or_false false = refl

or_assoc : (a b c : Bool) → ((a || b) || c) ≡ (a || (b || c))
or_assoc true b c = refl
or_assoc false b c = refl

-- the words among some, the last one first
words_of : List (Modifier Note) → Words
words_of [] = no_words
words_of (m ∷ before) = with_word (words_of before) m.word

one_more : (v w : ModifierWord) (ws : Words) → (clash v w || clashes ws w) ≡ clashes (with_word ws v) w
one_more modifier.Public modifier.Public ws = refl
one_more modifier.Public modifier.Protected ws = refl
one_more modifier.Public modifier.Private ws = refl
one_more modifier.Public modifier.Static ws = refl
one_more modifier.Public modifier.Abstract ws = refl
one_more modifier.Public modifier.Final ws = refl
one_more modifier.Public modifier.Var ws = refl
one_more modifier.Protected modifier.Public ws = refl
one_more modifier.Protected modifier.Protected ws = refl
one_more modifier.Protected modifier.Private ws = refl
one_more modifier.Protected modifier.Static ws = refl
one_more modifier.Protected modifier.Abstract ws = refl
one_more modifier.Protected modifier.Final ws = refl
one_more modifier.Protected modifier.Var ws = refl
one_more modifier.Private modifier.Public ws = refl
one_more modifier.Private modifier.Protected ws = refl
one_more modifier.Private modifier.Private ws = refl
one_more modifier.Private modifier.Static ws = refl
one_more modifier.Private modifier.Abstract ws = refl
one_more modifier.Private modifier.Final ws = refl
one_more modifier.Private modifier.Var ws = refl
one_more modifier.Static modifier.Public ws = refl
one_more modifier.Static modifier.Protected ws = refl
one_more modifier.Static modifier.Private ws = refl
one_more modifier.Static modifier.Static ws = refl
one_more modifier.Static modifier.Abstract ws = refl
one_more modifier.Static modifier.Final ws = refl
one_more modifier.Static modifier.Var ws = refl
one_more modifier.Abstract modifier.Public ws = refl
one_more modifier.Abstract modifier.Protected ws = refl
one_more modifier.Abstract modifier.Private ws = sym (or_true ws.has_visibility)
one_more modifier.Abstract modifier.Static ws = refl
one_more modifier.Abstract modifier.Abstract ws = sym (or_true ws.has_private)
one_more modifier.Abstract modifier.Final ws = refl
one_more modifier.Abstract modifier.Var ws = refl
one_more modifier.Final modifier.Public ws = refl
one_more modifier.Final modifier.Protected ws = refl
one_more modifier.Final modifier.Private ws = refl
one_more modifier.Final modifier.Static ws = refl
one_more modifier.Final modifier.Abstract ws = sym (ap (λ b. ws.has_private || b) (or_true ws.has_abstract) ∙ or_true ws.has_private)
one_more modifier.Final modifier.Final ws = sym (or_true ws.has_abstract)
one_more modifier.Final modifier.Var ws = refl
one_more modifier.Var modifier.Public ws = refl
one_more modifier.Var modifier.Protected ws = refl
one_more modifier.Var modifier.Private ws = refl
one_more modifier.Var modifier.Static ws = refl
one_more modifier.Var modifier.Abstract ws = refl
one_more modifier.Var modifier.Final ws = refl
one_more modifier.Var modifier.Var ws = refl

none_clashes : (w : ModifierWord) → false ≡ clashes no_words w
none_clashes modifier.Public = refl
none_clashes modifier.Protected = refl
none_clashes modifier.Private = refl
none_clashes modifier.Static = refl
none_clashes modifier.Abstract = refl
none_clashes modifier.Final = refl
none_clashes modifier.Var = refl

any_clashes : (w : ModifierWord) (before : List (Modifier Note)) → is_any (λ m. clash m.word w) before ≡ clashes (words_of before) w
unfolding words_of
any_clashes w [] = none_clashes w
any_clashes w (m ∷ before) = ap (λ b. clash m.word w || b) (any_clashes w before) ∙ one_more m.word w (words_of before)

mapped : {A B : Type 0} (t : Bool) (f : A → B) (x : A) → where_true t (f x) ≡ map f (where_true t x)
mapped true f x = refl
mapped false f x = refl

noted : (t : Bool) (m : Modifier Note) → where_true t (fault_at kind.BadUse m.note) ≡ map (fault_at kind.BadUse) (map (λ x. x.note) (where_true t m))
noted true m = refl
noted false m = refl

words_met : (before ms : List (Modifier Note)) (met : Option Fault)
    → (over met_word ms (record { first = met; words = words_of before })).first
    ≡ first_from met (map (fault_at kind.BadUse) (map (λ m. m.note) (repeated_behind (λ later earlier. clash earlier.word later.word) before ms)))
unfolding words_of
words_met before [] met = refl
words_met before (m ∷ ms) met =
    let rest = repeated_behind (λ later earlier. clash earlier.word later.word) (m ∷ before) ms in
    let here = where_true (is_any (λ earlier. clash earlier.word m.word) before) m in
    words_met (m ∷ before) ms (where_bad (clashes (words_of before) m.word) kind.BadUse m.note met)
    ∙ ap (λ t. first_from (where_bad t kind.BadUse m.note met) (map (fault_at kind.BadUse) (map (λ x. x.note) rest))) (sym (any_clashes m.word before))
    ∙ sym (first_from_joined met (where_true (is_any (λ earlier. clash earlier.word m.word) before) (fault_at kind.BadUse m.note)) (map (fault_at kind.BadUse) (map (λ x. x.note) rest)))
    ∙ ap (λ fs. first_from met (fs ++ map (fault_at kind.BadUse) (map (λ x. x.note) rest))) (noted (is_any (λ earlier. clash earlier.word m.word) before) m)
    ∙ ap (first_from met)
    (sym (map_joined (fault_at kind.BadUse) (map (λ x. x.note) here) (map (λ x. x.note) rest)) ∙ ap (map (fault_at kind.BadUse)) (sym (map_joined (λ x. x.note) here rest)))

pub modifiers_met : (ms : List (Modifier Note)) (met : Option Fault) → met_modifiers ms met ≡ first_from met (map (fault_at kind.BadUse) (clashing ms))
unfolding met_modifiers words_of
modifiers_met ms met = words_met [] ms met

-- ---- `abstract`

one_abstract : (v : ModifierWord) (ws : Words) → (with_word ws v).has_abstract ≡ (ws.has_abstract || is_abstract_word v)
one_abstract modifier.Public ws = sym (or_false ws.has_abstract)
one_abstract modifier.Protected ws = sym (or_false ws.has_abstract)
one_abstract modifier.Private ws = sym (or_false ws.has_abstract)
one_abstract modifier.Static ws = sym (or_false ws.has_abstract)
one_abstract modifier.Abstract ws = sym (or_true ws.has_abstract)
one_abstract modifier.Final ws = sym (or_false ws.has_abstract)
one_abstract modifier.Var ws = sym (or_false ws.has_abstract)

pub abstract_among : (ms : List (Modifier Note)) (worded : Worded) → (over met_word ms worded).words.has_abstract ≡ (worded.words.has_abstract || is_any (λ m. is_abstract_word m.word) ms)
abstract_among [] worded = sym (or_false worded.words.has_abstract)
abstract_among (m ∷ ms) worded =
    abstract_among ms (met_word m worded) ∙ ap (λ b. b || is_any (λ x. is_abstract_word x.word) ms) (one_abstract m.word worded.words)
    ∙ or_assoc worded.words.has_abstract (is_abstract_word m.word) (is_any (λ x. is_abstract_word x.word) ms)
