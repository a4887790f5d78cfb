-- The union of two arrays is never stuck: each key that is taken over is new in the array that is built, so nothing
-- falls, and the arrays below stay where they stand.
use Rattle.std.proofs.Common.{◌≡◌, ℕ, suc, ◌+◌, ◌<◌, ◌≤◌, Bool, true, false, cond, List, [], ◌∷◌, ◌++◌, length, Option, Some, None, refl, sym, ap, ◌∙◌, subst, arith, length-append}
use Rattle.std.specs.Prelude.{is_some, nat_lt, find, unwrap_or}
use Rattle.php_value.specs.declared.fault.Fault.TheVariants.{ArrayLimit}
use Rattle.php_value.specs.declared.key.Key.{Key}
use Rattle.php_frames.specs.declared.completion.Completion.{Completion}
use Rattle.php_frames.specs.declared.frame.Way.{Way}
use Rattle.php_entries.specs.Keys.{key_eq}
use Rattle.php_entries.specs.Listing.{Entry, Listing, no_entries, entry_at, is_at_limit, ENTRY_LIMIT}
use Rattle.php_entries.specs.Changes.{with_entry, entry_added, value_set, set_value}
use Rattle.php_entries.specs.Soundness.{HasNoKey, AreKeysDistinct}
use Rattle.php_entries.proofs.KeyLemmas.{key_eq-self, key_eq-sym_false}
use Rattle.php_entries.proofs.ListLemmas.{HasNoKey-find, find-HasNoKey}
use Rattle.php_memdef.specs.declared.place.Step.TheVariants.{At}
use Rattle.php_memdef.specs.declared.place.Place.{Place}
use Rattle.php_memdef.specs.declared.answer.Wrote.{Wrote}
use Rattle.php_memdef.specs.declared.answer.Wrote.TheVariants.{Done}
use Rattle.php_memdef.specs.Numbered.{numbered}
use Rattle.php_memdef.specs.Contents.{Content, null, array, Item, value, link, Scope, Mem, scope_of}
use Rattle.php_memdef.specs.Copies.{copied}
use Rattle.php_memdef.specs.Places.{Spot, stored, standing, nth_item, with_nth_item, content_if, content_at, with_content, with_new_store, new_store_number, temp_spot, stored_if, elements_of, elements_to_write, entry_store, step_store_if, next_spot, find_place, temp_to_write, element_to_write, element_made, step_in_elements, walk_step, walk}
use Rattle.php_memdef.specs.Sound.{IsKeyWithin, AreKeysWithin, IsSoundContent}
use Rattle.php_memdef.specs.Temporaries.{push_array, copy_of_spot, copy, popped, top_of, top, rest_of, fallen}
use Rattle.php_memdef.specs.Writes.{moved_in, assigned, assign}
use Rattle.php_memdef.specs.Views.{cost_of}
use Rattle.php_memdef.specs.Deciders.{can}
use Rattle.php_memdef.specs.Operations.{Can, answer}
use Rattle.php_memdef.specs.Operations as op
use Rattle.php_memdef_laws.specs.Shapes.{shape, without_top, if_done}
use Rattle.php_memdef_laws.proofs.NumberedLemmas.{numbered-with_same, with_next-numbered}
use Rattle.php_actions.specs.Data.{Frame, Data, Move, with_mem, on, next_with}
use Rattle.php_actions.specs.PlaceForms.{temporary}
use Rattle.php_actions.specs.Steps.{sink, fault, written, assigns}
use Rattle.php_actions.specs.Operators.{keys_of, keys_lacking, element, taken_over, united}
use Rattle.php_runnable.proofs.Actions.{Goes, next}
use Rattle.php_runnable.proofs.Blocks.{Holds, block_there, after, can_now, here, scope-with, can_push_array, push_array_holds, can_copy, copy_holds}
use Rattle.php_runnable.proofs.Steps.{on_ok, cond_ok, sink_ok}

-- ---- keys

abbrev Each : (Key → Type 0) → List Key → Type 0
Each Q [] = Unit {0}
Each Q (k ∷ ks) = Q k × Each Q ks

each-map : (Q R : Key → Type 0) → ((k : Key) → Q k → R k) → (ks : List Key) → Each Q ks → Each R ks
each-map Q R go [] h = tt
each-map Q R go (k ∷ ks) h = (go k h.0, each-map Q R go ks h.1)

abbrev IsNew : List (Entry ℕ) → Key → Type 0
IsNew es k = HasNoKey k es

abbrev IsApart : Key → Key → Type 0
IsApart k j = key_eq k j ≡ false

abbrev AreDistinct : List Key → Type 0
AreDistinct [] = Unit {0}
AreDistinct (k ∷ ks) = Each (IsApart k) ks × AreDistinct ks

abbrev IsThere : List (Entry ℕ) → Key → Type 0
IsThere es k = (e : Entry ℕ) × (find (λ (i : Entry ℕ). key_eq k i.key) es ≡ Some e)

apart_of : (k : Key) (es : List (Entry ℕ)) → HasNoKey k es → Each (IsApart k) (keys_of es)
apart_of k [] h = tt
apart_of k (e ∷ es) h = (h.0, apart_of k es h.1)

distinct_of : (es : List (Entry ℕ)) → AreKeysDistinct es → AreDistinct (keys_of es)
distinct_of [] h = tt
distinct_of (e ∷ es) h = (apart_of e.key es h.0, distinct_of es h.1)

within_of : (es : List (Entry ℕ)) → AreKeysWithin es → Each IsKeyWithin (keys_of es)
within_of [] h = tt
within_of (e ∷ es) h = (h.0, within_of es h.1)

there_behind : (e : Entry ℕ) (es : List (Entry ℕ)) (k : Key) → IsThere es k → IsThere (e ∷ es) k
there_behind e es k h = by (key_eq k e.key) refl
  where
    by : (t : Bool) → key_eq k e.key ≡ t → IsThere (e ∷ es) k
    by true i = (e, rw i refl)
    by false i = (h.0, rw i h.1)

there_of : (es : List (Entry ℕ)) → Each (IsThere es) (keys_of es)
there_of [] = tt
there_of (e ∷ es) = ((e, rw (key_eq-self e.key) refl), each-map (IsThere es) (IsThere (e ∷ es)) (there_behind e es) (keys_of es) (there_of es))

-- what holds of all keys holds of those that another array lacks
lacking-each : (Q : Key → Type 0) (x : Listing ℕ) (es : List (Entry ℕ)) → Each Q (keys_of es) → Each Q (keys_lacking x es)
lacking-each Q x [] h = tt
lacking-each Q x (e ∷ es) h = by (is_some (entry_at x e.key)) (lacking-each Q x es h.1)
  where
    by : (t : Bool) → Each Q (keys_lacking x es) → Each Q (cond t (keys_lacking x es) (e.key ∷ keys_lacking x es))
    by true k = k
    by false k = (h.0, k)

lacking-distinct : (x : Listing ℕ) (es : List (Entry ℕ)) → AreDistinct (keys_of es) → AreDistinct (keys_lacking x es)
lacking-distinct x [] h = tt
lacking-distinct x (e ∷ es) h = by (is_some (entry_at x e.key)) (lacking-distinct x es h.1)
  where
    by : (t : Bool) → AreDistinct (keys_lacking x es) → AreDistinct (cond t (keys_lacking x es) (e.key ∷ keys_lacking x es))
    by true k = k
    by false k = (lacking-each (IsApart e.key) x es h.0, k)

lacking-new : (x : Listing ℕ) (es : List (Entry ℕ)) → Each (IsNew x.entries) (keys_lacking x es)
lacking-new x [] = tt
lacking-new x (e ∷ es) = by (entry_at x e.key) refl (lacking-new x es)
  where
    by : (o : Option (Entry ℕ)) → entry_at x e.key ≡ o → Each (IsNew x.entries) (keys_lacking x es) → Each (IsNew x.entries) (cond (is_some o) (keys_lacking x es) (e.key ∷ keys_lacking x es))
    by (Some i) h k = k
    by None h k = (HasNoKey-find e.key x.entries h, k)

-- a key is new behind one more that differs from it
new_behind : (k : Key) (es : List (Entry ℕ)) (e : Entry ℕ) → HasNoKey k es → key_eq k e.key ≡ false → HasNoKey k (es ++ e ∷ [])
new_behind k [] e h i = (i, tt)
new_behind k (x ∷ es) e h i = (h.0, new_behind k es e h.1 i)

both-new : (j : Key) (es : List (Entry ℕ)) (e : Entry ℕ) (ks : List Key) → e.key ≡ j → Each (IsApart j) ks → Each (IsNew es) ks → Each (IsNew (es ++ e ∷ [])) ks
both-new j es e [] same h k = tt
both-new j es e (i ∷ ks) same h k = (new_behind i es e k.0 (ap (key_eq i) same ∙ key_eq-sym_false j i h.0), both-new j es e ks same h.1 k.1)

-- ---- the array that is built

module _ (room : ℕ) (f : Frame) (x y : Listing ℕ) (n : ℕ) where
  abbrev b : ℕ
  b = f.block

  -- it stands over the two operands
  record Building (m : Mem) (u : Listing ℕ) : Type 0 where
    rest : List Item
    temps : (scope_of m b).temps ≡ value (array u) ∷ value (array y) ∷ value (array x) ∷ rest
    holds : Holds b room m n 0

  -- a copy stands over it
  record Copied (m : Mem) (u : Listing ℕ) : Type 0 where
    copy_is : Content
    rest : List Item
    temps : (scope_of m b).temps ≡ value copy_is ∷ value (array u) ∷ value (array y) ∷ value (array x) ∷ rest
    holds : Holds b room m (suc n) 0

  copied-temps : (o : Option Spot) (m : Mem) (spot : Spot) → o ≡ Some spot → (c : Content) × ((scope_of (copy_of_spot o m b).0 b).temps ≡ value c ∷ (scope_of m b).temps)
  copied-temps None m spot e = absurd (cc)
  copied-temps (Some s) m spot e =
      let c = copied m (content_at m s) in
      (c.made, ap (λ (g : Scope). g.temps) (scope-with (record m { stores = c.stores }) b (record (scope_of m b) { temps = value c.made ∷ (scope_of m b).temps })))

  -- ---- an element of an operand is copied

  module _ (j : ℕ) (t : Listing ℕ) (small : j ≤ 2) (at : (u : Listing ℕ) (rest : List Item) → nth_item (value (array u) ∷ value (array y) ∷ value (array x) ∷ rest) j ≡ Some (value (array t))) where
    item_is : (m : Mem) (u : Listing ℕ) → (s : Building m u) → nth_item (scope_of m b).temps j ≡ Some (value (array t))
    item_is m u s = ap (λ is. nth_item is j) s.temps ∙ at u s.rest

    element-found : (m : Mem) (u : Listing ℕ) (s : Building m u) (k : Key) (e : Entry ℕ) → entry_at t k ≡ Some e → find_place m (element b j k) ≡ Some (stored e.value)
    unfolding find_place
    element-found m u s k e h =
        ap (λ o. next_spot m (temp_spot b j o) (At k)) (item_is m u s)
        ∙ ap (λ o. stored_if (step_store_if (elements_of (content_if o)) (At k))) (item_is m u s)
        ∙ ap (λ o. stored_if (entry_store o)) h

    can_copy_element : (m : Mem) (u : Listing ℕ) (s : Building m u) (k : Key) → IsKeyWithin k → n < room → Can (op.copy b (element b j k)) m
    can_copy_element m u s k w lt =
        can_copy b room m n 0 s.holds (element b j k) ((block_there b room m n 0 s.holds, omega (arith, small, ap length s.temps)), (w, tt)) lt

    element-copied : (m : Mem) (u : Listing ℕ) (s : Building m u) (k : Key) → IsThere t.entries k → Can (op.copy b (element b j k)) m → Copied (copy m b (element b j k)).0 u
    unfolding copy
    element-copied m u s k there c =
        let found = element-found m u s k there.0 there.1 in
        let more = copied-temps (find_place m (element b j k)) m (stored there.0.value) found in
        record {
          copy_is = more.0;
          rest = s.rest;
          temps = more.1 ∙ ap (λ is. value more.0 ∷ is) s.temps;
          holds = copy_holds b room m n 0 s.holds (element b j k) c (ap (λ o. (copy_of_spot o m b).1) found);
        }

  -- ---- it moves into the array under a new key

  module _ (m : Mem) (u : Listing ℕ) (s : Copied m u) (k : Key) (within : IsKeyWithin k) (new : HasNoKey k u.entries) where
    abbrev to : Place
    to = element b 1 k

    abbrev store : ℕ
    store = new_store_number m

    abbrev grown : Listing ℕ
    grown = with_entry u k store

    none_there : entry_at u k ≡ None
    none_there = find-HasNoKey k u.entries new

    second_is : nth_item (scope_of m b).temps 1 ≡ Some (value (array u))
    second_is = ap (λ is. nth_item is 1) s.temps

    first_is : nth_item (scope_of m b).temps 0 ≡ Some (value s.copy_is)
    first_is = ap (λ is. nth_item is 0) s.temps

    walk-is : walk m (temporary b 1) (At k ∷ []) ≡ element_made (entry_added (is_at_limit u) u k store) m (standing b 1)
    unfolding walk set_value
    walk-is =
        ap (λ o. walk_step (temp_to_write (temp_spot b 1 o) m b 1) (At k)) second_is
        ∙ ap (λ o. step_in_elements (elements_to_write (content_if o)) m (standing b 1) (At k)) second_is
        ∙ ap (λ o. element_to_write (entry_store o) u m (standing b 1) (At k)) none_there
        ∙ ap (λ o. element_made (value_set o u k store) m (standing b 1)) none_there

    assign-is : (t : Bool) → is_at_limit u ≡ t → assign m b to ≡ assigned (element_made (entry_added t u k store) m (standing b 1)) m b
    unfolding assign
    assign-is t e = ap (λ w. assigned w m b) walk-is ∙ ap (λ a. assigned (element_made (entry_added a u k store) m (standing b 1)) m b) e

    can_assign_element : Can (op.assign b to) m
    can_assign_element = record {
      block = block_there b room m (suc n) 0 s.holds;
      top = (s.copy_is, first_is);
      place = ((block_there b room m (suc n) 0 s.holds, omega (arith, ap length s.temps)), (within, tt));
      below_top = λ e. omega arith;
    }

    abbrev made : Mem
    made = with_content (with_new_store m null) (standing b 1) (array grown)

    abbrev behind : Mem
    behind = moved_in (top made b) made b (stored store)

    made_scope : scope_of made b ≡ record (scope_of m b) { temps = with_nth_item (scope_of m b).temps 1 (value (array grown)) }
    made_scope = scope-with (with_new_store m null) b (record (scope_of m b) { temps = with_nth_item (scope_of m b).temps 1 (value (array grown)) })

    made_temps : (scope_of made b).temps ≡ value s.copy_is ∷ value (array grown) ∷ value (array y) ∷ value (array x) ∷ s.rest
    made_temps = ap (λ (g : Scope). g.temps) made_scope ∙ ap (λ is. with_nth_item is 1 (value (array grown))) s.temps

    null_there : content_at made (stored store) ≡ null
    null_there = ap (λ o. unwrap_or o null) (ap (λ xs. numbered xs store) (with_next-numbered m.stores null) ∙ numbered-with_same m.stores store (Some null))

    moved-temps : (i : Item) → i ≡ value s.copy_is → (scope_of (moved_in i made b (stored store)) b).temps ≡ rest_of (scope_of made b).temps
    moved-temps (value c) e =
        let now = with_content made (stored store) c in
        ap (λ (g : Scope). g.temps) (scope-with (popped now b) b (record (scope_of (popped now b) b) { falling = (scope_of (popped now b) b).falling ++ fallen (value (content_at made (stored store))) }))
        ∙ ap (λ (g : Scope). g.temps) (scope-with now b (record (scope_of now b) { temps = rest_of (scope_of now b).temps }))
    moved-temps (link l) e = absurd (cc)

    moved-falling : (i : Item) → i ≡ value s.copy_is → length (scope_of (moved_in i made b (stored store)) b).falling ≤ 0
    moved-falling (value c) e =
        let now = with_content made (stored store) c in
        let all = ap (λ (g : Scope). length g.falling) (scope-with (popped now b) b (record (scope_of (popped now b) b) { falling = (scope_of (popped now b) b).falling ++ fallen (value (content_at made (stored store))) })) in
        let before = ap (λ (g : Scope). length g.falling) (scope-with now b (record (scope_of now b) { temps = rest_of (scope_of now b).temps })) in
        let same = ap (λ (g : Scope). length g.falling) made_scope in
        let nothing : length (fallen (value (content_at made (stored store)))) ≡ 0 = ap (λ a. length (fallen (value a))) null_there in
        omega (arith, all, before, same, nothing, s.holds.falling, length-append (scope_of (popped now b) b).falling (fallen (value (content_at made (stored store)))))
    moved-falling (link l) e = absurd (cc)

    top_is : top made b ≡ value s.copy_is
    top_is = ap top_of made_temps

    behind-holds : is_at_limit u ≡ false → Building behind grown
    behind-holds e =
        let is : assign m b to ≡ (behind, Done) = assign-is false e in
        let quiet : length (scope_of (assign m b to).0 b).falling ≤ 0 = subst (λ (a : Mem × Wrote). length (scope_of a.0 b).falling ≤ 0) (sym is) (moved-falling (top made b) top_is) in
        record {
          rest = s.rest;
          temps = moved-temps (top made b) top_is ∙ ap rest_of made_temps;
          holds =
              subst (λ (a : Mem × Wrote). Holds b room a.0 n 0) is
              (after b room (op.assign b to) m (suc n) 0 n 0 s.holds can_assign_element tt (λ h. refl)
              (here b (if_done (answer (op.assign b to) m) (without_top (shape m b)) (shape m b)) (shape m b)
              ∙ ap (λ (a : Mem × Wrote). if_done a.1 (without_top (shape m b)) (shape m b)) is ∙ ap without_top s.holds.looks)
              quiet);
        }

  -- ---- the keys of an operand are taken over

  record Builds (d : Data) (u : Listing ℕ) : Type 0 where
    frames : d.frames ≡ f ∷ []
    constants : d.constants ≡ []
    building : Building d.mem u

  module _ (P : Move → Type 0) (over : (d : Data) → P (fault ArrayLimit f d)) where
    write-goes : (d : Data) (u : Listing ℕ) (s : Copied d.mem u) (k : Key) (go : Data → Move) → IsKeyWithin k → HasNoKey k u.entries
        → ((m : Mem) (w : ℕ) → Building m (with_entry u k (new_store_number d.mem)) → P (go (record d { mem = m; writes = w }))) → P (assigns (element b 1 k) f d go)
    write-goes d u s k go within new h =
        cond_ok P (can (op.assign b (element b 1 k)) d.mem) (written (assign d.mem b (element b 1 k)) (element b 1 k) f d go)
        (can_now b room (op.assign b (element b 1 k)) d.mem (can_assign_element d.mem u s k within new)) (by (is_at_limit u) refl)
      where
        by : (t : Bool) → is_at_limit u ≡ t → P (written (assign d.mem b (element b 1 k)) (element b 1 k) f d go)
        by true e = subst (λ a. P (written a (element b 1 k) f d go)) (sym (assign-is d.mem u s k within new true e)) (over d)
        by false e =
            subst (λ a. P (written a (element b 1 k) f d go)) (sym (assign-is d.mem u s k within new false e))
            (h (behind d.mem u s k within new) (d.writes + cost_of d.mem (element b 1 k)) (behind-holds d.mem u s k within new e))

    module _ (j : ℕ) (t : Listing ℕ) (small : j ≤ 2) (at : (u : Listing ℕ) (rest : List Item) → nth_item (value (array u) ∷ value (array y) ∷ value (array x) ∷ rest) j ≡ Some (value (array t))) (lt : n < room) where
      taken-goes : (ks : List Key) (d : Data) (u : Listing ℕ) (go : Data → Move) → Builds d u → AreDistinct ks → Each (IsNew u.entries) ks → Each (IsThere t.entries) ks → Each IsKeyWithin ks
          → ((e : Data) (v : Listing ℕ) → Builds e v → ((k : Key) → HasNoKey k u.entries → Each (IsApart k) ks → HasNoKey k v.entries) → P (go e)) → P (taken_over j ks f d go)
      taken-goes [] d u go s distinct new there within h = h d u s (λ k i a. i)
      taken-goes (k ∷ ks) d u go s distinct new there within h =
          let c = can_copy_element j t small at d.mem u s.building k within.0 lt in
          let m = (copy d.mem b (element b j k)).0 in
          let added : Entry ℕ = record { serial = u.next_serial; key = k; value = new_store_number m } in
          on_ok P (can (op.copy b (element b j k)) d.mem) m (λ i. assigns (element b 1 k) f (with_mem d i) (λ e. taken_over j ks f e go)) (can_now b room (op.copy b (element b j k)) d.mem c)
          (write-goes (with_mem d m) u (element-copied j t small at d.mem u s.building k there.0 c) k (λ e. taken_over j ks f e go) within.0 new.0
          (λ i w built.
          taken-goes ks (record (with_mem d m) { mem = i; writes = w }) (with_entry u k (new_store_number m)) go (record { frames = s.frames; constants = s.constants; building = built })
          distinct.1 (both-new k u.entries added ks refl distinct.0 new.1) there.1 within.1
          (λ e v more keeps. h e v more (λ l i apart. keeps l (new_behind l u.entries added i apart.0) apart.1))))

-- ---- the union

two_on_top : (is : List Item) (x y : Listing ℕ) → nth_item is 1 ≡ Some (value (array x)) → nth_item is 0 ≡ Some (value (array y)) → (rest : List Item) × (is ≡ value (array y) ∷ value (array x) ∷ rest)
two_on_top [] x y i j = absurd (cc)
two_on_top (a ∷ []) x y i j = absurd (cc)
two_on_top (a ∷ (c ∷ rest)) x y i j =
    let first : a ≡ value (array y) = cc in
    let second : c ≡ value (array x) = cc in
    (rest, cc)

new_in_none : (ks : List Key) → Each (IsNew []) ks
new_in_none [] = tt
new_in_none (k ∷ ks) = (tt, new_in_none ks)

module _ (room : ℕ) (why : Completion) (way : Way) (f : Frame) (function : f.function ≡ 0) (pending : f.pending ≡ why) (way_is : f.way ≡ way) where
  module _ (d : Data) (frames : d.frames ≡ f ∷ []) (constants : d.constants ≡ []) (n r : ℕ) (s : Holds f.block room d.mem n 0) (x y : Listing ℕ)
      (second : nth_item (scope_of d.mem f.block).temps 1 ≡ Some (value (array x))) (first : nth_item (scope_of d.mem f.block).temps 0 ≡ Some (value (array y)))
      (sound_x : IsSoundContent (array x)) (sound_y : IsSoundContent (array y)) (e : n ≡ 2 + r) (l : r + 4 ≤ room) where
    abbrev P : Move → Type 0
    P mv = Goes room why way (1 + r) mv

    begun : Can (op.push_array f.block) d.mem → Building room f x y (suc n) (push_array d.mem f.block) no_entries
    unfolding push_array
    begun c =
        let two = two_on_top (scope_of d.mem f.block).temps x y second first in
        record {
          rest = two.0;
          temps = ap (λ (g : Scope). g.temps) (scope-with d.mem f.block (record (scope_of d.mem f.block) { temps = value (array no_entries) ∷ (scope_of d.mem f.block).temps })) ∙ ap (λ is. value (array no_entries) ∷ is) two.1;
          holds = push_array_holds f.block room d.mem n 0 s c;
        }

    last-goes : (d' : Data) (u : Listing ℕ) → Builds room f x y (suc n) d' u → P (sink f.block 2 d'.mem (next_with d'))
    last-goes d' u b =
        sink_ok P f.block room 2 d'.mem (suc n) 0 r (next_with d') b.building.holds (omega (arith, e)) (omega (arith, l))
        (λ m t. next room why way f function pending way_is d' b.frames b.constants m (suc r) (1 + r) (0 + 2) t (omega arith))

    right-goes : (d' : Data) (u : Listing ℕ) → Builds room f x y (suc n) d' u → ((k : Key) → HasNoKey k x.entries → HasNoKey k u.entries)
        → P (taken_over 1 (keys_lacking x y.entries) f d' (λ d''. sink f.block 2 d''.mem (next_with d'')))
    right-goes d' u b keeps =
        taken-goes room f x y (suc n) P (λ a. tt) 1 y (omega arith) (λ v rest. refl) (omega (arith, e, l)) (keys_lacking x y.entries) d' u (λ d''. sink f.block 2 d''.mem (next_with d'')) b
        (lacking-distinct x y.entries (distinct_of y.entries sound_y.0.keys_distinct))
        (each-map (IsNew x.entries) (IsNew u.entries) keeps (keys_lacking x y.entries) (lacking-new x y.entries))
        (lacking-each (IsThere y.entries) x y.entries (there_of y.entries))
        (lacking-each IsKeyWithin x y.entries (within_of y.entries sound_y.1))
        (λ d'' v more _. last-goes d'' v more)

    left-goes : Can (op.push_array f.block) d.mem
        → P (taken_over 2 (keys_of x.entries) f (with_mem d (push_array d.mem f.block)) (λ d'. taken_over 1 (keys_lacking x y.entries) f d' (λ d''. sink f.block 2 d''.mem (next_with d''))))
    left-goes c =
        taken-goes room f x y (suc n) P (λ a. tt) 2 x (omega arith) (λ v rest. refl) (omega (arith, e, l)) (keys_of x.entries) (with_mem d (push_array d.mem f.block)) no_entries
        (λ d'. taken_over 1 (keys_lacking x y.entries) f d' (λ d''. sink f.block 2 d''.mem (next_with d'')))
        (record { frames = frames; constants = constants; building = begun c })
        (distinct_of x.entries sound_x.0.keys_distinct) (new_in_none (keys_of x.entries)) (there_of x.entries) (within_of x.entries sound_x.1)
        (λ d' v more keeps. right-goes d' v more (λ k h. keeps k tt (apart_of k x.entries h)))

    united_or_full : (t : Bool) → P (cond t (fault ArrayLimit f d) (on (can (op.push_array f.block) d.mem) (push_array d.mem f.block) (λ m.
        taken_over 2 (keys_of x.entries) f (with_mem d m) (λ d'. taken_over 1 (keys_lacking x y.entries) f d' (λ d''. sink f.block 2 d''.mem (next_with d''))))))
    united_or_full true = tt
    united_or_full false =
        let c = can_push_array f.block room d.mem n 0 s (omega (arith, e, l)) in
        on_ok P (can (op.push_array f.block) d.mem) (push_array d.mem f.block) (λ m. taken_over 2 (keys_of x.entries) f (with_mem d m) (λ d'. taken_over 1 (keys_lacking x y.entries) f d' (λ d''. sink f.block 2 d''.mem (next_with d''))))
        (can_now f.block room (op.push_array f.block) d.mem c) (left-goes c)

    pub union-goes : Goes room why way (1 + r) (united x y f d)
    union-goes = united_or_full (nat_lt ENTRY_LIMIT (length (keys_of x.entries) + length (keys_lacking x y.entries)))
