-- Seeing names one by one meets those that an earlier one is like.
use Rattle.std.proofs.Common.{◌≡◌, Bool, true, false, ◌||◌, cond, Option, Some, None, List, [], ◌∷◌, ◌++◌, map, flat_map, refl, sym, ◌∙◌, ap, subst}
use Rattle.std.specs.Prelude.{nat_eq, bytes_eq}
use Rattle.std.specs.Prelude.{ℕ}
use Rattle.std.specs.List.{list_any}
use Rattle.std.specs.Cmp.Lexicographic.{pointwise}
use Rattle.std.proofs.lemmas.Bool.{true≢false}
use Rattle.std.proofs.lemmas.Slice.Eq.{bytes_eq-Decides}
use Rattle.php_token.specs.declared.kind.Keyword.{Keyword}
use Rattle.php_ast.specs.declared.spot.Word.{Word}
use Rattle.php_ast.specs.expression.View.{Note, spot_view, word_of}
use Rattle.php_ast.specs.statement.Tree.{Name}
use Rattle.php_legality.specs.declared.fault.Fault.{Fault}
use Rattle.php_legality.specs.Lists.{where_true, is_any, repeated, repeated_behind}
use Rattle.php_legality.specs.First.{first_from}
use Rattle.php_legality.specs.Declarations.{member_name}
use Rattle.php_duplicates.specs.Over.{over}
use Rattle.php_duplicates.specs.Saw.{Texts, Saw, saw, with_text, duplicate_at, first_among}

-- the duplicates at some names
abbrev pub faults_at : List (Name Note) → List Fault
faults_at ns = map duplicate_at (map (λ n. n.note) ns)

abbrev pub as_written : List ℕ → List ℕ
as_written text = text

or_swap : (a b c d : Bool) → a ≡ c → b ≡ d → a || b ≡ d || c
or_swap true true c d p q = ap (λ x. x || c) q
or_swap true false c d p q = p ∙ ap (λ x. x || c) q
or_swap false true c d p q = ap (λ x. x || c) q
or_swap false false c d p q = p ∙ ap (λ x. x || c) q

or_false : (b : Bool) → b || false ≡ b
or_false true = refl
or_false false = refl

any_last : (test : List ℕ → Bool) (ts : Texts) (t : List ℕ) → list_any test (ts ++ t ∷ []) ≡ list_any test ts || test t
any_last test [] t = or_false (test t)
any_last test (u ∷ ts) t = by (test u) refl (any_last test ts t)
  where
    by : (b : Bool) → test u ≡ b → list_any test (ts ++ t ∷ []) ≡ list_any test ts || test t → list_any test (u ∷ ts ++ t ∷ []) ≡ list_any test (u ∷ ts) || test t
    by true is rest = rw is refl
    by false is rest = rw is rest

texts_known : (ts : Texts) (text : List ℕ) → list_any (pointwise nat_eq text) ts ≡ true → with_text ts text ≡ ts
texts_known ts text there = rw there refl

texts_new : (ts : Texts) (text : List ℕ) → list_any (pointwise nat_eq text) ts ≡ false → with_text ts text ≡ ts ++ text ∷ []
texts_new ts text missing = rw missing refl

-- what one name makes of what was seen
one_seen : (ts new : Texts) (b : Bool) (met : Option Fault) (at : Note) (text : List ℕ) → with_text ts text ≡ new → list_any (pointwise nat_eq text) ts ≡ b
    → saw at text (record { texts = ts; first = met }) ≡ record { texts = new; first = first_from met (where_true b (duplicate_at at)) }
unfolding saw
one_seen ts new b met at text grown is =
    ap (λ (us : Texts). record { texts = us; first = first_from met (where_true (list_any (pointwise nat_eq text) ts) (duplicate_at at)) }) grown
    ∙ ap (λ (c : Bool). record { texts = new; first = first_from met (where_true c (duplicate_at at)) }) is

over_joined : {A V : Type 0} (each : A → V → V) (xs ys : List A) (v : V) → over each (xs ++ ys) v ≡ over each ys (over each xs v)
over_joined each [] ys v = refl
over_joined each (x ∷ xs) ys v = over_joined each xs ys (each x v)

-- by the text that counts of each name
module _ (key : List ℕ → List ℕ) where
  abbrev pub same_key : Name Note → Name Note → Bool
  same_key a b = bytes_eq (key a.text) (key b.text)

  abbrev pub saw_by : Name Note → Saw → Saw
  saw_by n s = saw n.note (key n.text) s

  abbrev Knows : Texts → List (Name Note) → Type 0
  Knows ts before = (text : List ℕ) → list_any (pointwise nat_eq text) ts ≡ is_any (λ n. bytes_eq text (key n.text)) before

  still_knows : (ts : Texts) (before : List (Name Note)) (x : Name Note) → list_any (pointwise nat_eq (key x.text)) ts ≡ true → Knows ts before → Knows ts (x ∷ before)
  still_knows ts before x there knows text = by (bytes_eq text (key x.text)) refl
    where
      by : (b : Bool) → bytes_eq text (key x.text) ≡ b → list_any (pointwise nat_eq text) ts ≡ bytes_eq text (key x.text) || is_any (λ n. bytes_eq text (key n.text)) before
      by true is = rw is (subst (λ t. list_any (pointwise nat_eq t) ts ≡ true) (sym ((bytes_eq-Decides text (key x.text)).0 is)) there)
      by false is = rw is (knows text)

  knows_new : (ts : Texts) (before : List (Name Note)) (x : Name Note) → Knows ts before → Knows (ts ++ key x.text ∷ []) (x ∷ before)
  knows_new ts before x knows text =
      any_last (pointwise nat_eq text) ts (key x.text) ∙ or_swap (list_any (pointwise nat_eq text) ts) (pointwise nat_eq text (key x.text)) _ _ (knows text) refl

  abbrev Goes : List (Name Note) → Type 0
  Goes ns = (before : List (Name Note)) (ts : Texts) (met : Option Fault) → Knows ts before
      → (over saw_by ns (record { texts = ts; first = met })).first ≡ first_from met (faults_at (repeated_behind same_key before ns))

  one_more : (x : Name Note) (ns before : List (Name Note)) (ts : Texts) (met : Option Fault) → Goes ns → Knows ts before
      → (over saw_by (x ∷ ns) (record { texts = ts; first = met })).first ≡ first_from met (faults_at (repeated_behind same_key before (x ∷ ns)))
  one_more x ns before ts met rest knows = by (list_any (pointwise nat_eq (key x.text)) ts) refl
    where
      by : (b : Bool) → list_any (pointwise nat_eq (key x.text)) ts ≡ b
          → (over saw_by (x ∷ ns) (record { texts = ts; first = met })).first ≡ first_from met (faults_at (repeated_behind same_key before (x ∷ ns)))
      by true there =
          ap (λ (s : Saw). (over saw_by ns s).first) (one_seen ts ts true met x.note (key x.text) (texts_known ts (key x.text) there) there)
          ∙ rest (x ∷ before) ts (first_from met (duplicate_at x.note ∷ [])) (still_knows ts before x there knows)
          ∙ ap (λ (c : Bool). first_from met (faults_at (where_true c x ++ repeated_behind same_key (x ∷ before) ns))) (sym there ∙ knows (key x.text))
      by false missing =
          ap (λ (s : Saw). (over saw_by ns s).first) (one_seen ts (ts ++ key x.text ∷ []) false met x.note (key x.text) (texts_new ts (key x.text) missing) missing)
          ∙ rest (x ∷ before) (ts ++ key x.text ∷ []) met (knows_new ts before x knows)
          ∙ ap (λ (c : Bool). first_from met (faults_at (where_true c x ++ repeated_behind same_key (x ∷ before) ns))) (sym missing ∙ knows (key x.text))

  go : (ns : List (Name Note)) → Goes ns
  go [] before ts met knows = refl
  go (x ∷ ns) before ts met knows = one_more x ns before ts met (go ns) knows

  -- elements that give names
  over_flat : {A : Type 0} (each : A → Saw → Saw) (f : A → List (Name Note)) → ((x : A) (s : Saw) → each x s ≡ over saw_by (f x) s)
      → (xs : List A) (s : Saw) → over each xs s ≡ over saw_by (flat_map f xs) s
  over_flat each f one [] s = refl
  over_flat each f one (x ∷ xs) s =
      ap (over each xs) (one x s) ∙ over_flat each f one xs (over saw_by (f x) s) ∙ sym (over_joined saw_by (f x) (flat_map f xs) s)

  pub first_among_is : {A : Type 0} (each : A → Saw → Saw) (f : A → List (Name Note)) → ((x : A) (s : Saw) → each x s ≡ over saw_by (f x) s)
      → (xs : List A) (met : Option Fault) → first_among each xs met ≡ first_from met (faults_at (repeated same_key (flat_map f xs)))
  first_among_is each f one xs met =
      ap (λ s. s.first) (over_flat each f one xs (record { texts = []; first = met })) ∙ go (flat_map f xs) [] [] met (λ text. refl)

-- a word, whose note may have the text of a keyword
pub word_saw : (key : List ℕ → List ℕ) (k : Option Keyword) (w : Word) (s : Saw) → saw (spot_view w.spot) (key w.text) s ≡ saw_by key (member_name (word_of k w)) s
unfolding saw
word_saw key None w s = refl
word_saw key (Some k) w s = refl
