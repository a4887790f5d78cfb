-- What holds of the script's block, and what each operation on it makes of that.
use Rattle.std.proofs.Common.{◌≡◌, ℕ, zero, suc, ◌+◌, ◌<◌, ◌≤◌, Bool, true, false, cond, List, [], ◌∷◌, ◌++◌, length, Some, None, refl, sym, ap, ◌∙◌, arith, inl, inr, length-append}
use Rattle.std.specs.Prelude.{unwrap_or}
use Rattle.std.proofs.lemmas.Bool.Decides.{eqb_tells}
use Rattle.php_value.specs.declared.scalar.Scalar.{Scalar}
use Rattle.php_memdef.specs.declared.place.Place.{Place}
use Rattle.php_memdef.specs.declared.answer.Read.TheVariants.{Found}
use Rattle.php_memdef.specs.Numbered.{numbered}
use Rattle.php_memdef.specs.Contents.{Content, null, truth, int, text, array, object, Item, value, link, Scope, Mem, no_scope, scope_of}
use Rattle.php_memdef.specs.Holders.{times, handles_of_content, handles_of_items, handles_of_scope, object_holders}
use Rattle.php_memdef.specs.Places.{nth_item, with_scope}
use Rattle.php_memdef.specs.Temporaries.{popped, top, let_fall, fallen, rest_of, drop_top}
use Rattle.php_memdef.specs.Sound.{IsSoundContent, AreSoundItems, IsSound}
use Rattle.php_memdef.specs.Conditions.{IsBlock, HasRoom, HasFallingRoom, HasTemp, IsScalarWithin, IsPlace}
use Rattle.php_memdef.specs.Deciders.{is_object, can}
use Rattle.php_memdef.specs.Operations.{Operation, Can, effect, answer}
use Rattle.php_memdef.specs.Operations as op
use Rattle.php_memdef_laws.specs.Lives.{IsNoRelease, is_object_after}
use Rattle.php_memdef_laws.specs.Shapes.{kinds, Shape, shape, with_one, without_top, with_one_if_found, kinds_turned, in_block, shape_after}
use Rattle.php_memdef_laws.proofs.NumberedLemmas.{numbered-with_same, total-with}
use Rattle.php_memdef_laws.proofs.DecidedOperations.{can-decides}
use Rattle.php_memdef_laws.proofs.FallingLemmas.{falling_stays}
use Rattle.php_memdef_laws.proofs.Formed.Parts.{scope-sound}
use Rattle.php_memdef_laws.proofs.Held.Operations.{effect-sound}
use Rattle.php_memdef_laws.proofs.Held.Parts.{times-append, times-self, weight_of_scope}
use Rattle.php_memdef_laws.proofs.ObjectLemmas.{objects_after}
use Rattle.php_memdef_laws.proofs.Shapes.Operations.{shapes}

-- so many contents, none of which is a link
abbrev pub values : ℕ → List Bool
values zero = []
values (suc n) = false ∷ values n

values-length : (n : ℕ) → length (values n) ≡ n
values-length zero = refl
values-length (suc n) = ap suc (values-length n)

kinds-length : (is : List Item) → length (kinds is) ≡ length is
kinds-length [] = refl
kinds-length (i ∷ is) = ap suc (kinds-length is)

-- a block with this room and so many contents
abbrev pub block_of : ℕ → ℕ → Shape
block_of room n = record { there = true; room = room; temps = values n }

-- an array or a scalar
abbrev pub IsPlain : Content → Type 0
IsPlain (object h) = ⊥
IsPlain _ = Unit {0}

pub here : (b : ℕ) (s others : Shape) → in_block b b s others ≡ s
here b s others = elim (eqb_tells b b) [
  | inl e ↦ ap (λ t. cond t s others) e.0
  | inr e ↦ absurd (e.1 refl)
]

pub scope-with : (m : Mem) (b : ℕ) (f : Scope) → scope_of (with_scope m b f) b ≡ f
scope-with m b f = ap (λ o. unwrap_or o no_scope) (numbered-with_same m.blocks b (Some f))

-- ---- items that are contents

pub record Stands (is : List Item) (k : ℕ) : Type 0 where
  pub content : Content
  pub there : nth_item is k ≡ Some (value content)
  pub sound : IsSoundContent content
  pub plain : IsPlain content

plain_of : (c : Content) → ((h : ℕ) → times h (handles_of_content c) ≡ 0) → IsPlain c
plain_of null none = tt
plain_of (truth b) none = tt
plain_of (int i) none = tt
plain_of (text bytes) none = tt
plain_of (array t) none = tt
plain_of (object h) none = absurd (omega (arith, none h, times-self h []))

stands_in : (is : List Item) (n k : ℕ) → kinds is ≡ values n → k < n → AreSoundItems is → ((h : ℕ) → times h (handles_of_items is) ≡ 0) → Stands is k
stands_in [] zero k e lt sound none = absurd (omega (arith, lt))
stands_in [] (suc n) k e lt sound none = absurd (cc)
stands_in (i ∷ is) zero k e lt sound none = absurd (omega (arith, lt))
stands_in (link s ∷ is) (suc n) k e lt sound none = absurd (cc)
stands_in (value c ∷ is) (suc n) zero e lt sound none = record {
  content = c;
  there = refl;
  sound = sound.0;
  plain = plain_of c (λ h. omega (arith, none h, times-append h (handles_of_content c) (handles_of_items is)));
}
stands_in (value c ∷ is) (suc n) (suc k) e lt sound none =
    let rest : kinds is ≡ values n = cc in
    let s = stands_in is n k rest (omega (arith, lt)) sound.1 (λ h. omega (arith, none h, times-append h (handles_of_content c) (handles_of_items is))) in
    record { content = s.content; there = s.there; sound = s.sound; plain = s.plain }

-- ---- the block of the script

module _ (b room : ℕ) where
  -- n contents stand in the block, and so many items have fallen there at most; no object is there
  pub record Holds (m : Mem) (n q : ℕ) : Type 0 where
    pub sound : IsSound m
    pub no_object : (h : ℕ) → is_object m h ≡ false
    pub looks : shape m b ≡ block_of room n
    pub falling : length (scope_of m b).falling ≤ q

  module _ (m : Mem) (n q : ℕ) (s : Holds m n q) where
    pub block_there : IsBlock m b
    block_there = ap (λ (x : Shape). x.there) s.looks

    room_is : (scope_of m b).room ≡ room
    room_is = ap (λ (x : Shape). x.room) s.looks

    pub temps_are : length (scope_of m b).temps ≡ n
    temps_are = sym (kinds-length (scope_of m b).temps) ∙ ap (λ (x : Shape). length x.temps) s.looks ∙ values-length n

    pub has_room : n < room → HasRoom m b
    has_room h = omega (arith, h, room_is, temps_are)

    pub has_falling_room : q < room → HasFallingRoom m b
    has_falling_room h = omega (arith, h, room_is, s.falling)

    pub has_temp : 0 < n → HasTemp m b
    has_temp h = omega (arith, h, temps_are)

    no_holders : (h : ℕ) → object_holders m h ≡ 0
    no_holders h = by (object_holders m h) refl
      where
        by : (x : ℕ) → object_holders m h ≡ x → object_holders m h ≡ 0
        by zero e = e
        by (suc x) e =
            let live : is_object m h ≡ true = s.sound.held.objects_live h (omega (arith, e)) in
            let dead = s.no_object h in
            absurd (cc)

    no_handle : (h : ℕ) → times h (handles_of_items (scope_of m b).temps) ≡ 0
    unfolding object_holders
    no_handle h =
        let w : Scope → ℕ = λ f. times h (handles_of_scope f) in
        let none = no_holders h in
        let all = total-with w m.blocks b None in
        let one = weight_of_scope w (numbered m.blocks b) refl in
        let both = times-append h (handles_of_items (scope_of m b).temps) (handles_of_items (scope_of m b).falling) in
        omega (arith, none, all, one, both)

    pub stands : (k : ℕ) → k < n → Stands (scope_of m b).temps k
    stands k lt = stands_in (scope_of m b).temps n k (ap (λ (x : Shape). x.temps) s.looks) lt (scope-sound m s.sound.formed b).temps no_handle

  -- fewer of the fallen, and the same number said otherwise
  pub holds_as : (m : Mem) (n k q r : ℕ) → Holds m n q → n ≡ k → q ≤ r → Holds m k r
  holds_as m n k q r s e l = record { sound = s.sound; no_object = s.no_object; looks = s.looks ∙ ap (block_of room) e; falling = omega (arith, s.falling, l) }

  -- ---- operations

  pub after : (o : Operation) (m : Mem) (n q k r : ℕ) → Holds m n q → Can o m → IsNoRelease o → ((h : ℕ) → is_object_after o m h ≡ is_object m h)
      → shape_after o m b ≡ block_of room k → length (scope_of (effect o m) b).falling ≤ r → Holds (effect o m) k r
  after o m n q k r s c keeps same looks l = record {
    sound = effect-sound o m s.sound c;
    no_object = λ h. objects_after o m keeps c h ∙ same h ∙ s.no_object h;
    looks = shapes o m c b ∙ looks;
    falling = l;
  }

  pub can_now : (o : Operation) (m : Mem) → Can o m → can o m ≡ true
  can_now o m c = (can-decides m o).1 c

  module _ (m : Mem) (n q : ℕ) (s : Holds m n q) where
    pub can_push : (v : Scalar) → IsScalarWithin v → n < room → Can (op.push b v) m
    can_push v w lt = record { block = block_there m n q s; room = has_room m n q s lt; within = w }

    pub push_holds : (v : Scalar) → Can (op.push b v) m → Holds (effect (op.push b v) m) (suc n) q
    push_holds v c =
        after (op.push b v) m n q (suc n) q s c tt (λ h. refl) (here b (with_one false (shape m b)) (shape m b) ∙ ap (with_one false) s.looks)
        (omega (arith, s.falling, ap length (falling_stays (op.push b v) m b (λ e. cc))))

    pub can_push_array : n < room → Can (op.push_array b) m
    can_push_array lt = record { block = block_there m n q s; room = has_room m n q s lt }

    pub push_array_holds : Can (op.push_array b) m → Holds (effect (op.push_array b) m) (suc n) q
    push_array_holds c =
        after (op.push_array b) m n q (suc n) q s c tt (λ h. refl) (here b (with_one false (shape m b)) (shape m b) ∙ ap (with_one false) s.looks)
        (omega (arith, s.falling, ap length (falling_stays (op.push_array b) m b (λ e. cc))))

    pub can_copy : (p : Place) → IsPlace m p → n < room → Can (op.copy b p) m
    can_copy p at lt = record { block = block_there m n q s; room = has_room m n q s lt; place = at }

    pub copy_holds : (p : Place) → Can (op.copy b p) m → answer (op.copy b p) m ≡ Found → Holds (effect (op.copy b p) m) (suc n) q
    copy_holds p c e =
        after (op.copy b p) m n q (suc n) q s c tt (λ h. refl)
        (here b (with_one_if_found (answer (op.copy b p) m) (shape m b)) (shape m b) ∙ ap (λ a. with_one_if_found a (shape m b)) e ∙ ap (with_one false) s.looks)
        (omega (arith, s.falling, ap length (falling_stays (op.copy b p) m b (λ e. cc))))

    same_values : (i j : ℕ) → i ≡ j → values i ≡ values j
    same_values i j e = ap values e

    values-joined : (j k : ℕ) → values j ++ values k ≡ values (k + j)
    values-joined zero k = same_values k (k + 0) (omega arith)
    values-joined (suc j) k = ap (λ ks. false ∷ ks) (values-joined j k) ∙ same_values (suc (k + j)) (k + suc j) (omega arith)

    values-turned : (k i j : ℕ) → kinds_turned k (values i) (values j) ≡ values (i + j)
    values-turned zero i j = values-joined j i
    values-turned (suc k) zero j = same_values j (0 + j) (omega arith)
    values-turned (suc k) (suc i) j = values-turned k i (suc j) ∙ same_values (i + suc j) (suc i + j) (omega arith)

    pub can_turn : (k : ℕ) → k ≤ n → Can (op.turn b k) m
    can_turn k l = record { block = block_there m n q s; enough = omega (arith, l, temps_are m n q s) }

    pub turn_holds : (k : ℕ) → Can (op.turn b k) m → Holds (effect (op.turn b k) m) n q
    turn_holds k c =
        after (op.turn b k) m n q n q s c tt (λ h. refl)
        (here b (record (shape m b) { temps = kinds_turned k (shape m b).temps [] }) (shape m b) ∙ ap (λ (x : Shape). record x { temps = kinds_turned k x.temps [] }) s.looks
        ∙ ap (λ ks. record { there = true; room = room; temps = ks }) (values-turned k n 0 ∙ same_values (n + 0) n (omega arith)))
        (omega (arith, s.falling, ap length (falling_stays (op.turn b k) m b (λ e. cc))))

  -- ---- what falls

  fallen-length : (i : Item) → length (fallen i) ≤ 1
  fallen-length (link s) = omega arith
  fallen-length (value null) = omega arith
  fallen-length (value (truth b)) = omega arith
  fallen-length (value (int i)) = omega arith
  fallen-length (value (text bytes)) = omega arith
  fallen-length (value (array t)) = omega arith
  fallen-length (value (object h)) = omega arith

  pub falls_one : (m : Mem) (i : Item) → length (scope_of (let_fall m b i) b).falling ≤ suc (length (scope_of m b).falling)
  falls_one m i =
      let e = ap (λ (f : Scope). length f.falling) (scope-with m b (record (scope_of m b) { falling = (scope_of m b).falling ++ fallen i })) in
      omega (arith, e, length-append (scope_of m b).falling (fallen i), fallen-length i)

  pub popped_falling : (m : Mem) → (scope_of (popped m b) b).falling ≡ (scope_of m b).falling
  popped_falling m = ap (λ (f : Scope). f.falling) (scope-with m b (record (scope_of m b) { temps = rest_of (scope_of m b).temps }))

  dropped_falling : (m : Mem) → length (scope_of (drop_top m b) b).falling ≤ suc (length (scope_of m b).falling)
  unfolding drop_top
  dropped_falling m = omega (arith, falls_one (popped m b) (top m b), ap length (popped_falling m))

  module _ (m : Mem) (n q : ℕ) (s : Holds m (suc n) q) where
    pub can_drop : q < room → Can (op.drop_top b) m
    can_drop lt = record { block = block_there m (suc n) q s; top = has_temp m (suc n) q s (omega arith); falling_room = has_falling_room m (suc n) q s lt }

    pub drop_holds : Can (op.drop_top b) m → Holds (effect (op.drop_top b) m) n (suc q)
    drop_holds c =
        after (op.drop_top b) m (suc n) q n (suc q) s c tt (λ h. refl) (here b (without_top (shape m b)) (shape m b) ∙ ap without_top s.looks)
        (omega (arith, s.falling, dropped_falling m))
