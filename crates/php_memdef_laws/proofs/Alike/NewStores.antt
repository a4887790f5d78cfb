-- A new store on each side of two memories that differ in the numbers of their stores.
use Rattle.std.proofs.Common.{◌≡◌, ◌≢◌, ℕ, List, length, refl, sym, ◌∙◌, ap, subst, inl, inr, cond}
use Rattle.std.specs.Prelude.{true, nat_eq, Option, Some, None, IsSome, is_some}
use Rattle.std.proofs.lemmas.Bool.{true≢false}
use Rattle.std.proofs.lemmas.Bool.Decides.{eqb_tells}
use Rattle.php_memdef.specs.Numbered.{Numbered, numbered, with_numbered}
use Rattle.php_memdef.specs.Contents.{Content, Mem}
use Rattle.php_memdef.specs.Holders.{stores_of_content, stores_of_object, stores_of_scope}
use Rattle.php_memdef.specs.Places.{with_new_store, new_store_number}
use Rattle.php_memdef.specs.Sound.{Every, IsLive, IsClosed}
use Rattle.php_memdef.specs.Alike.{map_if, renamed_content, renamed_scope, renamed_object, IsRenamed}
use Rattle.php_memdef_laws.proofs.NumberedLemmas.{numbered-length, with_next-numbered}
use Rattle.php_memdef_laws.proofs.Alike.Renamings.{Every-weaken, content-agree, scope-agree, object-agree}
use Rattle.php_memdef_laws.proofs.Alike.Memories.{store-renamed}
use Rattle.php_memdef_laws.proofs.Closed.Parts.{live-with_new}

-- two numbers in each other's place
abbrev swapped : ℕ → ℕ → ℕ → ℕ
swapped a b s = cond (nat_eq s a) b (cond (nat_eq s b) a s)

swapped-first : (a b : ℕ) → swapped a b a ≡ b
swapped-first a b = elim (eqb_tells a a) [
  | inl e ↦ ap (λ x. cond x b (cond (nat_eq a b) a a)) e.0
  | inr e ↦ absurd (e.1 refl)
]

swapped-second : (a b : ℕ) → swapped a b b ≡ a
swapped-second a b = elim (eqb_tells b a) [
  | inl e ↦ ap (λ x. cond x b (cond (nat_eq b b) a b)) e.0 ∙ e.1
  | inr e ↦ ap (λ x. cond x b (cond (nat_eq b b) a b)) e.0 ∙ elim (eqb_tells b b) [
    | inl d ↦ ap (λ x. cond x a b) d.0
    | inr d ↦ absurd (d.1 refl)
  ]
]

swapped-other : (a b s : ℕ) → s ≢ a → s ≢ b → swapped a b s ≡ s
swapped-other a b s na nb = elim (eqb_tells s a) [
  | inl e ↦ absurd (na e.1)
  | inr e ↦ ap (λ x. cond x b (cond (nat_eq s b) a s)) e.0 ∙ elim (eqb_tells s b) [
    | inl d ↦ absurd (nb d.1)
    | inr d ↦ ap (λ x. cond x a s) d.0
  ]
]

swapped-twice : (a b s : ℕ) → swapped a b (swapped a b s) ≡ s
swapped-twice a b s = elim (eqb_tells s a) [
  | inl e ↦ ap (λ x. swapped a b (swapped a b x)) e.1 ∙ ap (swapped a b) (swapped-first a b) ∙ swapped-second a b ∙ sym e.1
  | inr e ↦ elim (eqb_tells s b) [
    | inl d ↦ ap (λ x. swapped a b (swapped a b x)) d.1 ∙ ap (swapped a b) (swapped-second a b) ∙ swapped-first a b ∙ sym d.1
    | inr d ↦ ap (swapped a b) (swapped-other a b s e.1 d.1) ∙ swapped-other a b s e.1 d.1
  ]
]

-- where nothing is at any of three numbers, nothing is at the one that a swap gives
nothing_swapped : {X : Type 0} (xs : Numbered X) (a b s : ℕ) → numbered xs a ≡ None → numbered xs b ≡ None → numbered xs s ≡ None → numbered xs (swapped a b s) ≡ None
nothing_swapped xs a b s na nb ns = elim (eqb_tells s a) [
  | inl e ↦ ap (λ x. numbered xs (swapped a b x)) e.1 ∙ ap (numbered xs) (swapped-first a b) ∙ nb
  | inr e ↦ elim (eqb_tells s b) [
    | inl d ↦ ap (λ x. numbered xs (swapped a b x)) d.1 ∙ ap (numbered xs) (swapped-second a b) ∙ na
    | inr d ↦ ap (numbered xs) (swapped-other a b s e.1 d.1) ∙ ns
  ]
]

map_if-agree_on : {X Y : Type 0} (f g : X → Y) (o : Option X) → ((x : X) → o ≡ Some x → f x ≡ g x) → map_if f o ≡ map_if g o
map_if-agree_on f g None h = refl
map_if-agree_on f g (Some x) h = ap Some (h x refl)

not_there : {X : Type 0} (o : Option X) → IsSome o → o ≡ None → ⊥
not_there o h e = true≢false (sym h ∙ ap is_some e)

-- another renaming of the same memories, under which two numbers that nothing has are one
pub record Again (to : ℕ → ℕ) (m n : Mem) (k l : ℕ) : Type 0 where
  pub to' : ℕ → ℕ
  pub back' : ℕ → ℕ
  pub renamed : IsRenamed to' back' m n
  pub number : to' k ≡ l
  pub kept : (s : ℕ) → IsLive m s → to' s ≡ to s

module _ (to back : ℕ → ℕ) (m n : Mem) (r : IsRenamed to back m n) (closed : IsClosed m) (k l : ℕ) (free : numbered m.stores k ≡ None) (also : numbered n.stores l ≡ None) where
  abbrev again : ℕ → ℕ
  again s = swapped (to k) l (to s)

  free_there : numbered n.stores (to k) ≡ None
  free_there = r.stores k ∙ ap (map_if (renamed_content to)) free

  live_there : (s : ℕ) → IsLive m s → IsSome (numbered n.stores (to s))
  live_there s h = ap is_some (r.stores s) ∙ still (numbered m.stores s) h
    where
      still : (o : Option Content) → IsSome o → is_some (map_if (renamed_content to) o) ≡ true
      still None h = h
      still (Some c) h = refl

  again-kept : (s : ℕ) → IsLive m s → again s ≡ to s
  again-kept s h =
      swapped-other (to k) l (to s)
      (λ e. not_there (numbered n.stores (to s)) (live_there s h) (ap (numbered n.stores) e ∙ free_there))
      (λ e. not_there (numbered n.stores (to s)) (live_there s h) (ap (numbered n.stores) e ∙ also))

  names_kept : (xs : List ℕ) → Every (IsLive m) xs → Every (λ s. to s ≡ again s) xs
  names_kept xs h = Every-weaken (IsLive m) (λ s. to s ≡ again s) (λ s h. sym (again-kept s h)) xs h

  store_again : (s : ℕ) (o : Option Content) → numbered m.stores s ≡ o → numbered n.stores (again s) ≡ map_if (renamed_content again) o
  store_again s None e = nothing_swapped n.stores (to k) l (to s) free_there also (r.stores s ∙ ap (map_if (renamed_content to)) e)
  store_again s (Some c) e =
      ap (numbered n.stores) (again-kept s (ap is_some e)) ∙ r.stores s ∙ ap (map_if (renamed_content to)) e
      ∙ ap Some (content-agree to again c (names_kept (stores_of_content c) (closed.stores s c e)))

  pub renamed_again : Again to m n k l
  renamed_again = record {
    to' = again;
    back' = λ t. back (swapped (to k) l t);
    renamed = record {
      back_to = λ s. ap back (swapped-twice (to k) l (to s)) ∙ r.back_to s;
      to_back = λ t. ap (swapped (to k) l) (r.to_back (swapped (to k) l t)) ∙ swapped-twice (to k) l t;
      stores = λ s. store_again s (numbered m.stores s) refl;
      objects = λ h. r.objects h ∙ map_if-agree_on (renamed_object to) (renamed_object again) (numbered m.objects h) (λ o e. object-agree to again o (names_kept (stores_of_object o) (closed.objects h o e)));
      blocks = λ b. r.blocks b ∙ map_if-agree_on (renamed_scope to) (renamed_scope again) (numbered m.blocks b) (λ f e. scope-agree to again f (names_kept (stores_of_scope f) (closed.blocks b f e)));
      statics = λ i. r.statics i ∙ map_if-agree_on to again (numbered m.statics i) (λ s e. sym (again-kept s (closed.statics i s e)));
      next_object = r.next_object;
    };
    number = swapped-first (to k) l;
    kept = again-kept;
  }

-- the renaming goes on: what was there keeps its number
pub record Extends (to : ℕ → ℕ) (m : Mem) (to' : ℕ → ℕ) (m' : Mem) : Type 0 where
  pub live : (s : ℕ) → IsLive m s → IsLive m' s
  pub kept : (s : ℕ) → IsLive m s → to' s ≡ to s

pub Extends-refl : (to : ℕ → ℕ) (m : Mem) → Extends to m to m
Extends-refl to m = record { live = λ s h. h; kept = λ s h. refl }

pub Extends-trans : (f g h : ℕ → ℕ) (l m n : Mem) → Extends f l g m → Extends g m h n → Extends f l h n
Extends-trans f g h l m n a b = record { live = λ s x. b.live s (a.live s x); kept = λ s x. b.kept s (a.live s x) ∙ a.kept s x }

-- with one more store on each side
pub record OneMore (to : ℕ → ℕ) (m n : Mem) (c : Content) : Type 0 where
  pub to' : ℕ → ℕ
  pub back' : ℕ → ℕ
  pub renamed : IsRenamed to' back' (with_new_store m c) (with_new_store n (renamed_content to c))
  pub number : to' (new_store_number m) ≡ new_store_number n
  pub extends : Extends to m to' (with_new_store m c)

pub one_more : (to back : ℕ → ℕ) (m n : Mem) → IsRenamed to back m n → IsClosed m → (c : Content) → Every (IsLive m) (stores_of_content c) → OneMore to m n c
one_more to back m n r closed c h =
    let k = length m.stores in
    let l = length n.stores in
    let a = renamed_again to back m n r closed k l (numbered-length m.stores) (numbered-length n.stores) in
    let d = renamed_content to c in
    let same : map_if (renamed_content a.to') (Some c) ≡ Some d = ap Some (content-agree a.to' to c (Every-weaken (IsLive m) (λ s. a.to' s ≡ to s) a.kept (stores_of_content c) h)) in
    let put : IsRenamed a.to' a.back' (record m { stores = with_numbered m.stores k (Some c) }) (record n { stores = with_numbered n.stores l (Some d) }) =
    subst (λ (o : Option Content). IsRenamed a.to' a.back' (record m { stores = with_numbered m.stores k (Some c) }) (record n { stores = with_numbered n.stores l o })) same
    (subst (λ (x : ℕ). IsRenamed a.to' a.back' (record m { stores = with_numbered m.stores k (Some c) }) (record n { stores = with_numbered n.stores x (map_if (renamed_content a.to') (Some c)) })) a.number (store-renamed a.to' a.back' m n a.renamed k (Some c))) in
    record {
      to' = a.to';
      back' = a.back';
      renamed =
          subst (λ (xs : Numbered Content). IsRenamed a.to' a.back' (record m { stores = xs }) (with_new_store n d)) (sym (with_next-numbered m.stores c))
          (subst (λ (xs : Numbered Content). IsRenamed a.to' a.back' (record m { stores = with_numbered m.stores k (Some c) }) (record n { stores = xs })) (sym (with_next-numbered n.stores d)) put);
      number = a.number;
      extends = record { live = live-with_new m closed c; kept = a.kept };
    }
