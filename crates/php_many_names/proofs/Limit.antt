-- The first token past the limit is that of the first name behind so many different ones.
use Rattle.std.proofs.Common.{◌≡◌, ◌≤◌, ℕ, zero, suc, ◌+◌, Bool, true, false, ◌&&◌, ◌||◌, not, cond, Option, Some, None, List, [], ◌∷◌, ◌++◌, map, take, drop, length, refl, sym, ◌∙◌, ap, subst, arith}
use mathlib.Core.Logic.{inl, inr}
use Rattle.std.specs.Prelude.{◌⊎◌, nat_lt, nat_eq, bytes_eq}
use Rattle.std.specs.List.{list_any}
use Rattle.std.specs.Cmp.Lexicographic.{pointwise}
use Rattle.std.proofs.lemmas.Bool.{cases_Bool, true≢false, lt-ltb, le-ltb}
use Rattle.std.proofs.lemmas.Slice.Eq.{bytes_eq-Decides}
use Rattle.php_ast.specs.expression.View.{Note}
use Rattle.php_legality.specs.declared.kind.Kind.TheVariants as kind
use Rattle.php_legality.specs.declared.fault.Fault.{Fault}
use Rattle.php_legality.specs.First.{fault_at, IsNoLater, IsFirst}
use Rattle.php_legality.specs.Lists.{where_some, is_any, different, different_behind}
use Rattle.php_legality.specs.NameTokens.{NameToken, is_same_token}
use Rattle.php_legality.specs.Rows.{most_names, too_many}
use Rattle.php_legality.proofs.FirstLemmas.{no_later_self}
use Rattle.php_many_names.specs.Tally.{Texts, Tally, with_text, past_limit, with_name, with_variable, nothing}
use Rattle.php_many_names.proofs.Bridge.{meet, meet_all}

abbrev fault : Note → Fault
fault at = fault_at kind.TooManyNames at

abbrev state : Texts → Texts → Tally
state ns vs = record { names = ns; variables = vs; first = None }

abbrev over_limit : Texts → Texts → Note → Tally
over_limit ns vs at = record { names = ns; variables = vs; first = Some (fault at) }

-- ---- which texts are known

abbrev side : Texts → Texts → Bool → Texts
side ns vs true = vs
side ns vs false = ns

abbrev known : Texts → Texts → Bool → List ℕ → Bool
known ns vs v text = list_any (pointwise nat_eq text) (side ns vs v)

abbrev Knows : Texts → Texts → List (NameToken Note) → Type 0
Knows ns vs before = (v : Bool) (text : List ℕ) (at : Note) → known ns vs v text ≡ is_any (is_same_token (record { note = at; is_variable = v; text = text })) before

or_swap : (a b c d : Bool) → a ≡ c → b ≡ d → a || b ≡ d || c
or_swap true true c d p q = ap (λ x. x || c) q
or_swap true false c d p q = p ∙ ap (λ x. x || c) q
or_swap false true c d p q = ap (λ x. x || c) q
or_swap false false c d p q = p ∙ ap (λ x. x || c) q

any_last : (test : List ℕ → Bool) (ts : Texts) (t : List ℕ) → list_any test (ts ++ t ∷ []) ≡ list_any test ts || test t
any_last test [] t = or_false (test t)
  where
    or_false : (b : Bool) → b || false ≡ b
    or_false true = refl
    or_false false = refl
any_last test (u ∷ ts) t = by (test u) refl (any_last test ts t)
  where
    by : (b : Bool) → test u ≡ b → list_any test (ts ++ t ∷ []) ≡ list_any test ts || test t → list_any test (u ∷ ts ++ t ∷ []) ≡ list_any test (u ∷ ts) || test t
    by true is rest = rw is refl
    by false is rest = rw is rest

-- a text that is known already
same_side : (ns vs : Texts) (v w : Bool) (text other : List ℕ) → (v && w || not v && not w) && bytes_eq text other ≡ true → known ns vs w other ≡ true → known ns vs v text ≡ true
same_side ns vs true true text other same there = subst (λ t. list_any (pointwise nat_eq t) vs ≡ true) (sym ((bytes_eq-Decides text other).0 same)) there
same_side ns vs true false text other same there = absurd (true≢false (sym same))
same_side ns vs false true text other same there = absurd (true≢false (sym same))
same_side ns vs false false text other same there = subst (λ t. list_any (pointwise nat_eq t) ns ≡ true) (sym ((bytes_eq-Decides text other).0 same)) there

still_knows : (ns vs : Texts) (before : List (NameToken Note)) (at : Note) (w : Bool) (other : List ℕ) → known ns vs w other ≡ true → Knows ns vs before
    → Knows ns vs (record { note = at; is_variable = w; text = other } ∷ before)
still_knows ns vs before at w other there knows v text note = by ((v && w || not v && not w) && bytes_eq text other) refl
  where
    by : (b : Bool) → (v && w || not v && not w) && bytes_eq text other ≡ b
        → known ns vs v text ≡ ((v && w || not v && not w) && bytes_eq text other) || is_any (is_same_token (record { note = note; is_variable = v; text = text })) before
    by true is = rw is (same_side ns vs v w text other is there)
    by false is = rw is (knows v text note)

-- a new one
knows_name : (ns vs : Texts) (before : List (NameToken Note)) (at : Note) (other : List ℕ) → Knows ns vs before
    → Knows (ns ++ other ∷ []) vs (record { note = at; is_variable = false; text = other } ∷ before)
knows_name ns vs before at other knows true text note = knows true text note
knows_name ns vs before at other knows false text note =
    any_last (pointwise nat_eq text) ns other ∙ or_swap (list_any (pointwise nat_eq text) ns) (pointwise nat_eq text other) _ _ (knows false text note) refl

knows_variable : (ns vs : Texts) (before : List (NameToken Note)) (at : Note) (other : List ℕ) → Knows ns vs before
    → Knows ns (vs ++ other ∷ []) (record { note = at; is_variable = true; text = other } ∷ before)
knows_variable ns vs before at other knows true text note =
    any_last (pointwise nat_eq text) vs other ∙ or_swap (list_any (pointwise nat_eq text) vs) (pointwise nat_eq text other) _ _ (knows true text note) refl
knows_variable ns vs before at other knows false text note = knows false text note

-- ---- one token

within : (n : ℕ) (at : Note) → n ≤ most_names → past_limit n at ≡ None
unfolding past_limit
within n at small = ap (λ b. cond b (Some (fault at)) None) (le-ltb most_names n small)

beyond : (n : ℕ) (at : Note) → suc most_names ≤ n → past_limit n at ≡ Some (fault at)
unfolding past_limit
beyond n at large = ap (λ b. cond b (Some (fault at)) None) (lt-ltb most_names n (omega (arith, large)))

length_last : (ts : Texts) (t : List ℕ) → length (ts ++ t ∷ []) ≡ length ts + 1
length_last [] t = refl
length_last (u ∷ ts) t = let more = length_last ts t in omega (arith, more)

texts_known : (ts : Texts) (text : List ℕ) → list_any (pointwise nat_eq text) ts ≡ true → with_text ts text ≡ ts
texts_known ts text there = rw there refl

texts_new : (ts : Texts) (text : List ℕ) → list_any (pointwise nat_eq text) ts ≡ false → with_text ts text ≡ ts ++ text ∷ []
texts_new ts text missing = rw missing refl

-- what a name makes of the texts
named : (ns vs ms : Texts) (first : Option Fault) (at : Note) (text : List ℕ) → with_text ns text ≡ ms → past_limit (length ms + length vs) at ≡ first
    → meet (state ns vs) (record { note = at; is_variable = false; text = text }) ≡ record { names = ms; variables = vs; first = first }
unfolding with_name
named ns vs ms first at text grown is =
    ap (λ (ts : Texts). record { names = ts; variables = vs; first = past_limit (length ts + length vs) at }) grown
    ∙ ap (λ (f : Option Fault). record { names = ms; variables = vs; first = f }) is

valued : (ns vs ws : Texts) (first : Option Fault) (at : Note) (text : List ℕ) → with_text vs text ≡ ws → past_limit (length ns + length ws) at ≡ first
    → meet (state ns vs) (record { note = at; is_variable = true; text = text }) ≡ record { names = ns; variables = ws; first = first }
unfolding with_variable
valued ns vs ws first at text grown is =
    ap (λ (ts : Texts). record { names = ns; variables = ts; first = past_limit (length ns + length ts) at }) grown
    ∙ ap (λ (f : Option Fault). record { names = ns; variables = ws; first = f }) is

-- behind the limit nothing counts
stays_once : (ns vs : Texts) (at : Note) (v : Bool) (note : Note) (text : List ℕ) → meet (over_limit ns vs at) (record { note = note; is_variable = v; text = text }) ≡ over_limit ns vs at
unfolding with_name with_variable
stays_once ns vs at true note text = refl
stays_once ns vs at false note text = refl

stays : (ns vs : Texts) (at : Note) (xs : List (NameToken Note)) → meet_all (over_limit ns vs at) xs ≡ over_limit ns vs at
stays ns vs at [] = refl
stays ns vs at (x ∷ xs) = ap (λ t. meet_all t xs) (stays_once ns vs at x.is_variable x.note x.text) ∙ stays ns vs at xs

-- ---- all tokens

abbrev found : Tally → List Fault
found tally = where_some (λ f. f ∷ []) tally.first

-- the faults where k more different ones are allowed
abbrev faults_from : ℕ → List (NameToken Note) → List (NameToken Note) → List Fault
faults_from k before xs = map (fault_at kind.TooManyNames) (map (λ n. n.note) (take 1 (drop k (different_behind is_same_token before xs))))

abbrev faults_of : ℕ → List (NameToken Note) → List Fault
faults_of k those = map (fault_at kind.TooManyNames) (map (λ n. n.note) (take 1 (drop k those)))

-- for each further list of tokens
abbrev Goes : List (NameToken Note) → Type 0
Goes xs = (before : List (NameToken Note)) (k : ℕ) (ns vs : Texts) → Knows ns vs before → length ns + length vs + k ≡ most_names → found (meet_all (state ns vs) xs) ≡ faults_from k before xs

-- whether a token is one of those before
seen : (b : Bool) (x : NameToken Note) (xs before : List (NameToken Note)) (k : ℕ) → is_any (is_same_token x) before ≡ b
    → faults_from k before (x ∷ xs) ≡ faults_of k (cond b [] (x ∷ []) ++ different_behind is_same_token (x ∷ before) xs)
seen b x xs before k is = ap (λ t. faults_of k (cond t [] (x ∷ []) ++ different_behind is_same_token (x ∷ before) xs)) is

one_name : (at : Note) (text : List ℕ) (xs before : List (NameToken Note)) (k : ℕ) (ns vs : Texts) → Goes xs → Knows ns vs before → length ns + length vs + k ≡ most_names
    → found (meet_all (state ns vs) (record { note = at; is_variable = false; text = text } ∷ xs)) ≡ faults_from k before (record { note = at; is_variable = false; text = text } ∷ xs)
one_name at text xs before k ns vs rest knows all = by (known ns vs false text) refl k all
  where
    by : (b : Bool) → known ns vs false text ≡ b → (k : ℕ) → length ns + length vs + k ≡ most_names
        → found (meet_all (state ns vs) (record { note = at; is_variable = false; text = text } ∷ xs)) ≡ faults_from k before (record { note = at; is_variable = false; text = text } ∷ xs)
    by true there k all =
        ap (λ m. found (meet_all m xs)) (named ns vs ns None at text (texts_known ns text there) (within (length ns + length vs) at (omega (arith, all))))
        ∙ rest (record { note = at; is_variable = false; text = text } ∷ before) k ns vs (still_knows ns vs before at false text there knows) all
        ∙ sym (seen true (record { note = at; is_variable = false; text = text }) xs before k (sym (knows false text at) ∙ there))
    by false missing zero all =
        let more = length_last ns text in
        ap (λ m. found (meet_all m xs))
        (named ns vs (ns ++ text ∷ []) (Some (fault at)) at text (texts_new ns text missing) (beyond (length (ns ++ text ∷ []) + length vs) at (omega (arith, all, more))))
        ∙ ap found (stays (ns ++ text ∷ []) vs at xs)
        ∙ sym (seen false (record { note = at; is_variable = false; text = text }) xs before zero (sym (knows false text at) ∙ missing))
    by false missing (suc k) all =
        let more = length_last ns text in
        ap (λ m. found (meet_all m xs))
        (named ns vs (ns ++ text ∷ []) None at text (texts_new ns text missing) (within (length (ns ++ text ∷ []) + length vs) at (omega (arith, all, more))))
        ∙ rest (record { note = at; is_variable = false; text = text } ∷ before) k (ns ++ text ∷ []) vs (knows_name ns vs before at text knows) (omega (arith, all, more))
        ∙ sym (seen false (record { note = at; is_variable = false; text = text }) xs before (suc k) (sym (knows false text at) ∙ missing))

one_variable : (at : Note) (text : List ℕ) (xs before : List (NameToken Note)) (k : ℕ) (ns vs : Texts) → Goes xs → Knows ns vs before → length ns + length vs + k ≡ most_names
    → found (meet_all (state ns vs) (record { note = at; is_variable = true; text = text } ∷ xs)) ≡ faults_from k before (record { note = at; is_variable = true; text = text } ∷ xs)
one_variable at text xs before k ns vs rest knows all = by (known ns vs true text) refl k all
  where
    by : (b : Bool) → known ns vs true text ≡ b → (k : ℕ) → length ns + length vs + k ≡ most_names
        → found (meet_all (state ns vs) (record { note = at; is_variable = true; text = text } ∷ xs)) ≡ faults_from k before (record { note = at; is_variable = true; text = text } ∷ xs)
    by true there k all =
        ap (λ m. found (meet_all m xs)) (valued ns vs vs None at text (texts_known vs text there) (within (length ns + length vs) at (omega (arith, all))))
        ∙ rest (record { note = at; is_variable = true; text = text } ∷ before) k ns vs (still_knows ns vs before at true text there knows) all
        ∙ sym (seen true (record { note = at; is_variable = true; text = text }) xs before k (sym (knows true text at) ∙ there))
    by false missing zero all =
        let more = length_last vs text in
        ap (λ m. found (meet_all m xs))
        (valued ns vs (vs ++ text ∷ []) (Some (fault at)) at text (texts_new vs text missing) (beyond (length ns + length (vs ++ text ∷ [])) at (omega (arith, all, more))))
        ∙ ap found (stays ns (vs ++ text ∷ []) at xs)
        ∙ sym (seen false (record { note = at; is_variable = true; text = text }) xs before zero (sym (knows true text at) ∙ missing))
    by false missing (suc k) all =
        let more = length_last vs text in
        ap (λ m. found (meet_all m xs))
        (valued ns vs (vs ++ text ∷ []) None at text (texts_new vs text missing) (within (length ns + length (vs ++ text ∷ [])) at (omega (arith, all, more))))
        ∙ rest (record { note = at; is_variable = true; text = text } ∷ before) k ns (vs ++ text ∷ []) (knows_variable ns vs before at text knows) (omega (arith, all, more))
        ∙ sym (seen false (record { note = at; is_variable = true; text = text }) xs before (suc k) (sym (knows true text at) ∙ missing))

one_more : (v : Bool) (at : Note) (text : List ℕ) (xs before : List (NameToken Note)) (k : ℕ) (ns vs : Texts) → Goes xs → Knows ns vs before → length ns + length vs + k ≡ most_names
    → found (meet_all (state ns vs) (record { note = at; is_variable = v; text = text } ∷ xs)) ≡ faults_from k before (record { note = at; is_variable = v; text = text } ∷ xs)
one_more true at text xs before k ns vs rest knows all = one_variable at text xs before k ns vs rest knows all
one_more false at text xs before k ns vs rest knows all = one_name at text xs before k ns vs rest knows all

go : (xs : List (NameToken Note)) → Goes xs
go [] before zero ns vs knows all = refl
go [] before (suc k) ns vs knows all = refl
go (x ∷ xs) before k ns vs knows all = one_more x.is_variable x.note x.text xs before k ns vs (go xs) knows all

-- at most one fault is the first one
first_of_one : (first : Option Fault) → IsFirst (where_some (λ f. f ∷ []) first ++ []) first
first_of_one None = refl
first_of_one (Some f) = (inl refl, each)
  where
    each : (b : Fault) → (f ≡ b) ⊎ ⊥ → IsNoLater f b
    each b (inl is) = subst (IsNoLater f) is (no_later_self f)
    each b (inr none) = absurd none

pub limit_is_met : (xs : List (NameToken Note)) → IsFirst (map (fault_at kind.TooManyNames) (too_many most_names xs) ++ []) (meet_all nothing xs).first
limit_is_met xs =
    subst (λ fs. IsFirst (fs ++ []) (meet_all nothing xs).first) (go xs [] most_names [] [] (λ v text at. unknown v text) (omega arith)) (first_of_one (meet_all nothing xs).first)
  where
    unknown : (v : Bool) (text : List ℕ) → known [] [] v text ≡ false
    unknown true text = refl
    unknown false text = refl
