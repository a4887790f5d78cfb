-- Stores and objects that got holders, and lose them again.
use Rattle.std.proofs.Common.{◌≡◌, ◌≢◌, ℕ, zero, suc, ◌+◌, ◌<◌, ◌≤◌, List, [], ◌∷◌, ◌++◌, length, refl, sym, ◌∙◌, ap, subst, arith, ◌⊎◌, inl, inr, cond}
use Rattle.std.specs.Prelude.{Option, Some, None, Box, IsSome, IfSome, IfNone, is_some}
use Rattle.std.specs.declared.alloc.Global.{Global}
use Rattle.std.proofs.lemmas.Bool.Decides.{eqb_tells}
use Rattle.std.proofs.lemmas.Bool.{false≢true}
use Rattle.slab.specs.Slab.{Slab}
use Rattle.php_memdef.specs.Numbered.{Numbered, numbered, with_numbered}
use Rattle.php_memdef.specs.Contents.{Content}
use Rattle.php_memdef.specs.Holders.{times}
use Rattle.php_memdef_laws.proofs.NumberedLemmas.{numbered-with_same, numbered-with_other}
use Rattle.php_memdef_laws.proofs.Held.Parts.{times-append, times-self}
use Rattle.php_memplain_cells.specs.declared.content.Content.{Content as Kept}
use Rattle.php_memplain_cells.specs.declared.stores.Store.{Store}
use Rattle.php_memplain_cells.specs.declared.objects.Object.{Object}
use Rattle.php_memplain_cells.specs.Seen.{content_seen, stores_seen, objects_seen}
use Rattle.php_memplain_cells.specs.Counts.{count_of_store, count_of_object, AreFewer, AreFewerHandles}
use Rattle.php_memplain_copy.specs.Copying.{Puts}
use Rattle.php_memplain_copy.specs.More.{AreMore, AreSame, AreMoreHandles, StoresGrown, ObjectsGrown}

pub times_none : (j k : ℕ) → j ≢ k → times j (k ∷ []) ≡ 0
times_none j k ne = elim (eqb_tells j k) [
  | inl e ↦ absurd (ne e.1)
  | inr e ↦ ap (λ b. cond b 1 0 + 0) e.0
]

pub times_one : (k : ℕ) → times k (k ∷ []) ≡ 1
times_one k = elim (eqb_tells k k) [
  | inl e ↦ ap (λ b. cond b 1 0 + 0) e.0
  | inr e ↦ absurd (e.1 refl)
]

pub none_left : (xs : List ℕ) → length xs ≡ 0 → xs ≡ []
none_left [] e = refl
none_left (x ∷ xs) e = absurd (omega (arith, e))

none_or_some : (n : ℕ) → (n ≡ 0) ⊎ (0 < n)
none_or_some zero = inl refl
none_or_some (suc n) = inr (omega arith)

-- how often a number stands in a list with one more at its end
pub times_last : (j k : ℕ) (ds es : List ℕ) → ds ≡ es ++ k ∷ [] → times j ds ≡ times j es + times j (k ∷ [])
times_last j k ds es e = ap (times j) e ∙ times-append j es (k ∷ [])

module _ (before now : Slab Store) (done : List ℕ) (g : StoresGrown before now done) where
  -- a store that was there and is shared gets a holder
  pub kept_grown : (next : Slab Store) (s : ℕ) (done' : List ℕ) → stores_seen next ≡ stores_seen now → AreMore now next (s ∷ []) → done' ≡ done ++ s ∷ [] → 1 < count_of_store before s → StoresGrown before next done'
  kept_grown next s done' seen more is shared = record {
    kept = λ j live. ap (λ xs. numbered xs j) seen ∙ g.kept j live;
    more = λ j. omega (arith, more j, g.more j, times_last j s done' done is);
    alone = λ j live one. elim (eqb_tells j s) [
      | inl e ↦ absurd (let same : count_of_store before j ≡ count_of_store before s = ap (count_of_store before) e.1 in omega (arith, same, one, shared))
      | inr e ↦ omega (arith, g.alone j live one, times_none j s e.1, times_last j s done' done is)
    ];
    held_before = g.held_before;
    held = λ j live. (let old : 0 < count_of_store now j = g.held j (ap (λ xs. is_some (numbered xs j)) (sym seen) ∙ live) in omega (arith, old, more j));
  }

  -- a new store
  pub put_grown : (next : Slab Store) (k : ℕ) (c : Content) (done' : List ℕ) → Puts (stores_seen now) k c (stores_seen next) → AreMore now next (k ∷ []) → done' ≡ done ++ k ∷ [] → StoresGrown before next done'
  put_grown next k c done' put more is = record {
    kept = λ j live. put.others j (not_new j live) ∙ g.kept j live;
    more = λ j. omega (arith, more j, g.more j, times_last j k done' done is);
    alone = λ j live one. omega (arith, g.alone j live one, times_none j k (not_new j live), times_last j k done' done is);
    held_before = g.held_before;
    held = λ j live. elim (eqb_tells j k) [
      | inl e ↦ (let one : times j (k ∷ []) ≡ 1 = ap (λ i. times i (k ∷ [])) e.1 ∙ times_one k in omega (arith, one, more j))
      | inr e ↦ (let old : 0 < count_of_store now j = g.held j (ap is_some (sym (put.others j e.1)) ∙ live) in omega (arith, old, more j))
    ];
  }
    where
      not_new : (j : ℕ) → IsSome (numbered (stores_seen before) j) → j ≢ k
      not_new j live e = false≢true (ap is_some (sym put.free) ∙ ap (λ i. is_some (numbered (stores_seen now) i)) (sym e) ∙ ap is_some (g.kept j live) ∙ live)

  -- nothing came of it
  pub same_grown : (next : Slab Store) (done' : List ℕ) → stores_seen next ≡ stores_seen now → AreSame now next → done' ≡ done → StoresGrown before next done'
  same_grown next done' seen same is = record {
    kept = λ j live. ap (λ xs. numbered xs j) seen ∙ g.kept j live;
    more = λ j. omega (arith, same j, g.more j, ap (times j) is);
    alone = λ j live one. ap (times j) is ∙ g.alone j live one;
    held_before = g.held_before;
    held = λ j live. (let old : 0 < count_of_store now j = g.held j (ap (λ xs. is_some (numbered xs j)) (sym seen) ∙ live) in omega (arith, old, same j));
  }

  -- the last holder that came is taken away, and where it was the only one, so is the store

  pub last_held : (s : ℕ) (done' : List ℕ) → done ≡ done' ++ s ∷ [] → 0 < count_of_store now s
  last_held s done' is = omega (arith, g.more s, times_last s s done done' is, times_one s)

  module _ (next : Slab Store) (s : ℕ) (done' : List ℕ) (is : done ≡ done' ++ s ∷ []) (fewer : AreFewer now next s) where
    more_left : AreMore before next done'
    more_left j = omega (arith, fewer j, g.more j, times_last j s done done' is)

    alone_left : (j : ℕ) → IsSome (numbered (stores_seen before) j) → count_of_store before j ≤ 1 → times j done' ≡ 0
    alone_left j live one = omega (arith, g.alone j live one, times_last j s done done' is)

    others_held : (j : ℕ) → j ≢ s → IsSome (numbered (stores_seen now) j) → 0 < count_of_store next j
    others_held j ne live = let old : 0 < count_of_store now j = g.held j live in omega (arith, old, fewer j, times_none j s ne)

    lowered : 1 < count_of_store now s → stores_seen next ≡ stores_seen now → StoresGrown before next done'
    lowered some seen = record {
      kept = λ j live. ap (λ xs. numbered xs j) seen ∙ g.kept j live;
      more = more_left;
      alone = alone_left;
      held_before = g.held_before;
      held = λ j live. elim (eqb_tells j s) [
        | inl e ↦ (
            let one : times j (s ∷ []) ≡ 1 = ap (λ i. times i (s ∷ [])) e.1 ∙ times_one s in
            let old : count_of_store now j ≡ count_of_store now s = ap (count_of_store now) e.1 in
            omega (arith, one, old, some, fewer j))
        | inr e ↦ others_held j e.1 (ap (λ xs. is_some (numbered xs j)) (sym seen) ∙ live)
      ];
    }

    removed : count_of_store now s ≡ 1 → stores_seen next ≡ with_numbered (stores_seen now) s None → StoresGrown before next done'
    removed one seen = record {
      kept = λ j live. ap (λ xs. numbered xs j) seen ∙ numbered-with_other (stores_seen now) s j None (old_one j live) ∙ g.kept j live;
      more = more_left;
      alone = alone_left;
      held_before = g.held_before;
      held = λ j live. elim (eqb_tells j s) [
        | inl e ↦ absurd (false≢true (ap is_some (sym (ap (λ xs. numbered xs j) seen ∙ ap (numbered (with_numbered (stores_seen now) s None)) e.1 ∙ numbered-with_same (stores_seen now) s None)) ∙ live))
        | inr e ↦ others_held j e.1 (ap is_some (sym (ap (λ xs. numbered xs j) seen ∙ numbered-with_other (stores_seen now) s j None e.1)) ∙ live)
      ];
    }
      where
        old_one : (j : ℕ) → IsSome (numbered (stores_seen before) j) → j ≢ s
        old_one j live e =
            let some : 0 < count_of_store before j = g.held_before j live in
            let same : count_of_store now j ≡ 1 = ap (count_of_store now) e ∙ one in
            let times_here : times j (s ∷ []) ≡ 1 = ap (λ i. times i (s ∷ [])) e ∙ times_one s in
            omega (arith, some, same, times_here, g.more j, times_last j s done done' is)

-- what taking a holder away comes to, by what it hands out
pub undone : (before now next : Slab Store) (done done' : List ℕ) (g : StoresGrown before now done) (s : ℕ) → done ≡ done' ++ s ∷ [] → AreFewer now next s → (r : Option Kept) → IfNone r ((1 < count_of_store now s) × (stores_seen next ≡ stores_seen now)) → IfSome r (λ c. (count_of_store now s ≡ 1) × (numbered (stores_seen now) s ≡ Some (content_seen c)) × (stores_seen next ≡ with_numbered (stores_seen now) s None)) → StoresGrown before next done'
undone before now next done done' g s is fewer None kept gone = lowered before now done g next s done' is fewer kept.0 kept.1
undone before now next done done' g s is fewer (Some c) kept gone = removed before now done g next s done' is fewer gone.0 gone.2

module _ (before now : List (Option (Box Object Global))) (raised : List ℕ) (g : ObjectsGrown before now raised) where
  pub raised_grown : (next : List (Option (Box Object Global))) (hs raised' : List ℕ) → objects_seen next ≡ objects_seen now → AreMoreHandles now next hs → raised' ≡ raised ++ hs → ((h : ℕ) → 0 < times h hs → 0 < count_of_object now h) → ObjectsGrown before next raised'
  raised_grown next hs raised' seen more is held = record {
    seen = seen ∙ g.seen;
    more = λ j. omega (arith, more j, g.more j, ap (times j) is ∙ times-append j raised hs);
    held = λ h some. by_times h (times h raised) refl some;
  }
    where
      by_times : (h n : ℕ) → times h raised ≡ n → 0 < times h raised' → 0 < count_of_object before h
      by_times h n e some = elim (none_or_some n) [
        | inl none ↦ (let now_held : 0 < count_of_object now h = held h (omega (arith, e, none, some, ap (times h) is ∙ times-append h raised hs)) in omega (arith, now_held, g.more h, e, none))
        | inr more_of ↦ g.held h (omega (arith, e, more_of))
      ]

  pub same_raised : (next : List (Option (Box Object Global))) (raised' : List ℕ) → objects_seen next ≡ objects_seen now → ((h : ℕ) → count_of_object next h ≡ count_of_object now h) → raised' ≡ raised → ObjectsGrown before next raised'
  same_raised next raised' seen same is = record {
    seen = seen ∙ g.seen;
    more = λ j. omega (arith, same j, g.more j, ap (times j) is);
    held = λ h some. g.held h (subst (λ rs. 0 < times h rs) is some);
  }

  -- the last holder that came is taken away: there is another one
  module _ (h : ℕ) (raised' : List ℕ) (is : raised ≡ raised' ++ h ∷ []) where
    pub two_held : 1 < count_of_object now h
    two_held = let some : 0 < count_of_object before h = g.held h (omega (arith, times_last h h raised raised' is, times_one h)) in omega (arith, some, g.more h, times_last h h raised raised' is, times_one h)

    pub handle_lowered : (next : List (Option (Box Object Global))) → objects_seen next ≡ objects_seen now → AreFewerHandles now next h → ObjectsGrown before next raised'
    handle_lowered next seen fewer = record {
      seen = seen ∙ g.seen;
      more = λ j. omega (arith, fewer j, g.more j, times_last j h raised raised' is);
      held = λ j some. g.held j (omega (arith, some, times_last j h raised raised' is));
    }
