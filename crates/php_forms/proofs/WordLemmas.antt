-- Names that may be spelled as keywords, and names that no class may have.
use Rattle.std.proofs.Common.{◌≡◌, ◌<◌, ℕ, zero, suc, length, get_or, arith, Bool, true, false, ◌||◌, Option, Some, None, List, [], ◌∷◌, ◌++◌, refl, sym, ◌∙◌, ap}
use Rattle.std.specs.Str.{str_eq_ignore_ascii_case}
use Rattle.php_token.specs.declared.kind.Keyword.{Keyword}
use Rattle.php_ast.specs.declared.spot.Word.{Word}
use Rattle.php_ast.specs.expression.View.{Note, spot_view, word_of, word_view}
use Rattle.php_legality.specs.declared.kind.Kind.TheVariants as kind
use Rattle.php_legality.specs.declared.fault.Fault.{Fault}
use Rattle.php_legality.specs.Lists.{is_any}
use Rattle.php_legality.specs.Declarations.{member_note}
use Rattle.php_legality.specs.Taken.{is_one_of, no_class_names}
use Rattle.php_places.specs.Met.{where_bad}
use Rattle.php_forms.specs.ClassFaults.{own_names, type_names, constant_names}

at_keyword : (t : Bool) (keyword : Option Keyword) (w : Word) (met : Option Fault)
    → where_bad t kind.BadUse (spot_view w.spot) met ≡ where_bad t kind.BadUse (member_note (word_of keyword w)) met
at_keyword t None w met = refl
at_keyword t (Some k) w met = refl

pub at_word : (t : Bool) (w : Word) (met : Option Fault) → where_bad t kind.BadUse (spot_view w.spot) met ≡ where_bad t kind.BadUse (member_note (word_view w)) met
at_word t w met = at_keyword t w.keyword w met

or_assoc : (a b c : Bool) → ((a || b) || c) ≡ (a || (b || c))
or_assoc true b c = refl
or_assoc false b c = refl

any_joined : {A : Type 0} (test : A → Bool) (xs ys : List A) → is_any test (xs ++ ys) ≡ (is_any test xs || is_any test ys)
any_joined test [] ys = refl
any_joined test (x ∷ xs) ys = ap (λ b. test x || b) (any_joined test xs ys) ∙ sym (or_assoc (test x) (is_any test xs) (is_any test ys))

pub no_class : (text : List ℕ) → is_one_of no_class_names text ≡ (is_one_of own_names text || (is_one_of type_names text || is_one_of constant_names text))
unfolding no_class_names
no_class text =
    any_joined (λ x. str_eq_ignore_ascii_case x text) own_names (type_names ++ constant_names) ∙ ap (λ b. is_one_of own_names text || b) (any_joined (λ x. str_eq_ignore_ascii_case x text) type_names constant_names)

pub own_name : (text : List ℕ) (a : Bool) → a ≡ is_one_of own_names text → a ≡ true → true ≡ is_one_of no_class_names text
own_name text true is so = ap (λ x. x || (is_one_of type_names text || is_one_of constant_names text)) is ∙ sym (no_class text)
own_name text false is so = absurd (cc)

pub type_name : (text : List ℕ) (a b : Bool) → a ≡ is_one_of own_names text → a ≡ false → b ≡ is_one_of type_names text → b ≡ true → true ≡ is_one_of no_class_names text
type_name text true b is isnt next so = absurd (cc)
type_name text false false is isnt next so = absurd (cc)
type_name text false true is isnt next so =
    ap (λ x. false || (x || is_one_of constant_names text)) next ∙ ap (λ x. x || (is_one_of type_names text || is_one_of constant_names text)) is ∙ sym (no_class text)

pub constant_name : (text : List ℕ) (a b d : Bool) → a ≡ is_one_of own_names text → a ≡ false → b ≡ is_one_of type_names text → b ≡ false → d ≡ is_one_of constant_names text → d ≡ is_one_of no_class_names text
constant_name text true b d is isnt next none last = absurd (cc)
constant_name text false true d is isnt next none last = absurd (cc)
constant_name text false false d is isnt next none last =
    last ∙ ap (λ x. false || (x || is_one_of constant_names text)) next ∙ ap (λ x. x || (is_one_of type_names text || is_one_of constant_names text)) is ∙ sym (no_class text)

-- ---- what stands at a place

pub get_same : {A : Type 0} (xs : List A) (i : ℕ) (d : A) → i < length xs → get_or xs i d ≡ get_or xs i (get_or xs i d)
get_same [] i d within = absurd (omega arith)
get_same (x ∷ xs) zero d within = refl
get_same (x ∷ xs) (suc i) d within = get_same xs i d (omega arith)
