-- An element leaves the array at a spot.
use Rattle.std.proofs.Common.{◌≡◌, ◌+◌, ℕ, zero, suc, List, [], ◌∷◌, refl, sym, ◌∙◌, ap, subst, arith, cond}
use Rattle.std.specs.Prelude.{Bool, true, false, Option, Some, None, unwrap_or, find, IsSome, is_some}
use Rattle.std.proofs.lemmas.Bool.{false≢true}
use Rattle.php_value.specs.declared.key.Key.{Key}
use Rattle.php_entries.specs.Keys.{key_eq}
use Rattle.php_entries.specs.Listing.{Entry, Listing, last_of}
use Rattle.php_entries.specs.Changes.{without_key, without_last, popped as popped_entry, remove_key, pop_entry}
use Rattle.php_memdef.specs.declared.place.Step.{Step}
use Rattle.php_memdef.specs.declared.place.Step.TheVariants.{At, Push}
use Rattle.php_memdef.specs.Numbered.{numbered}
use Rattle.php_memdef.specs.Contents.{Content, null, truth, int, text, array, object, Item, value, link, Scope, Mem, no_scope, scope_of}
use Rattle.php_memdef.specs.Holders.{times, stores_of_entries, stores_of_content, handles_of_content}
use Rattle.php_memdef.specs.Places.{Spot, stored, standing, nth_item, with_nth_item, content_if, content_at, with_content, with_scope, elements_of, entry_store, step_store, step_store_if}
use Rattle.php_memdef.specs.Temporaries.{let_fall}
use Rattle.php_memdef.specs.Writes.{let_fall_if, element_removed, removed_in_elements, last_removed, last_removed_in}
use Rattle.php_memdef_laws.proofs.NumberedLemmas.{numbered-with_same}
use Rattle.php_memdef_laws.proofs.Held.Writes.{IsReal, holders-with_content, handles-with_content}
use Rattle.php_memplain_cells.specs.declared.cells.Cells.{Cells}
use Rattle.php_memplain_cells.specs.Counts.{count_of_store, count_of_object}
use Rattle.php_memplain_cells.specs.Memory.{memory_seen, IsCounted}
use Rattle.php_memplain_cells.proofs.SlotLemmas.{with_same, with_twice}
use Rattle.php_memplain_cells.proofs.FallingLemmas.{scope_again, scope_twice}
use Rattle.php_memplain_cells.proofs.MemoryLemmas.{counted_by}
use Rattle.php_memplain_changes.specs.Standing.{HasContent, AreWaitingKept}
use Rattle.php_memplain_changes.specs.Taken.{in_hand, Takes, with_elements, last_store, without_step}
use Rattle.php_memplain_changes.proofs.SwapLemmas.{none_some, same_some}

pub real_of : (m : Mem) (spot : Spot) → HasContent m spot → IsReal m spot
real_of m (stored s) h = tt
real_of m (standing b k) h = h

-- two contents put at one spot

nth_twice : (is : List Item) (k : ℕ) (i j : Item) → with_nth_item (with_nth_item is k i) k j ≡ with_nth_item is k j
nth_twice [] k i j = refl
nth_twice (x ∷ is) zero i j = refl
nth_twice (x ∷ is) (suc k) i j = ap (λ js. x ∷ js) (nth_twice is k i j)

pub put_twice : (m : Mem) (spot : Spot) (c d : Content) → with_content (with_content m spot c) spot d ≡ with_content m spot d
put_twice m (stored s) c d = ap (λ xs. record m { stores = xs }) (with_twice m.stores s (Some c) (Some d))
put_twice m (standing b k) c d =
    let f = scope_of m b in
    let g : Scope = record f { temps = with_nth_item f.temps k (value c) } in
    ap (λ (x : Scope). with_scope (with_scope m b g) b (record x { temps = with_nth_item x.temps k (value d) })) (scope_again m b g)
    ∙ scope_twice m b g (record f { temps = with_nth_item (with_nth_item f.temps k (value c)) k (value d) })
    ∙ ap (λ (is : List Item). with_scope m b (record f { temps = is })) (nth_twice f.temps k (value c) (value d))

-- what stood at a spot, put there again

nth_same : (is : List Item) (k : ℕ) (c : Content) → nth_item is k ≡ Some (value c) → with_nth_item is k (value c) ≡ is
nth_same [] k c e = refl
nth_same (i ∷ is) zero c e = ap (λ j. j ∷ is) (sym (same_some e))
nth_same (i ∷ is) (suc k) c e = ap (λ js. i ∷ js) (nth_same is k c e)

pub scope_same : (m : Mem) (b : ℕ) → IsSome (numbered m.blocks b) → with_scope m b (scope_of m b) ≡ m
scope_same m b live = by_block (numbered m.blocks b) refl live
  where
    by_block : (o : Option Scope) → numbered m.blocks b ≡ o → IsSome o → with_scope m b (scope_of m b) ≡ m
    by_block None f h = absurd (false≢true h)
    by_block (Some g) f h = ap (λ (x : Scope). with_scope m b x) (ap (λ o. unwrap_or o no_scope) f) ∙ ap (λ bs. record m { blocks = bs }) (with_same m.blocks b g f)

temp_live : (m : Mem) (b k : ℕ) (i : Item) → nth_item (scope_of m b).temps k ≡ Some i → IsSome (numbered m.blocks b)
temp_live m b k i e = by_block (numbered m.blocks b) refl
  where
    by_block : (o : Option Scope) → numbered m.blocks b ≡ o → IsSome (numbered m.blocks b)
    by_block None f = absurd (none_some (sym (ap (λ o. nth_item (unwrap_or o no_scope).temps k) f) ∙ e))
    by_block (Some g) f = ap is_some f

pub put_same : (m : Mem) (spot : Spot) → HasContent m spot → (c : Content) → c ≡ content_at m spot → with_content m spot c ≡ m
put_same m (stored s) live c e = by_slot (numbered m.stores s) refl live
  where
    by_slot : (o : Option Content) → numbered m.stores s ≡ o → IsSome o → with_content m (stored s) c ≡ m
    by_slot None f h = absurd (false≢true h)
    by_slot (Some d) f h =
        ap (λ x. with_content m (stored s) x) (e ∙ ap (λ o. unwrap_or o null) f)
        ∙ ap (λ xs. record m { stores = xs }) (with_same m.stores s d f)
put_same m (standing b k) real c e =
    let f = scope_of m b in
    let same : c ≡ real.0 = e ∙ ap content_if real.1 in
    ap (λ x. with_scope m b (record f { temps = with_nth_item f.temps k (value x) })) same
    ∙ ap (λ (is : List Item). with_scope m b (record f { temps = is })) (nth_same f.temps k real.0 real.1)
    ∙ scope_same m b (temp_live m b k (value real.0) real.1)

nth_put : (is : List Item) (k : ℕ) (c d : Content) → nth_item is k ≡ Some (value d) → nth_item (with_nth_item is k (value c)) k ≡ Some (value c)
nth_put [] k c d e = absurd (none_some e)
nth_put (i ∷ is) zero c d e = refl
nth_put (i ∷ is) (suc k) c d e = nth_put is k c d e

-- where a content was put, one stands
pub has_put : (m : Mem) (spot : Spot) → HasContent m spot → (c : Content) → HasContent (with_content m spot c) spot
has_put m (stored s) h c = ap is_some (numbered-with_same m.stores s (Some c))
has_put m (standing b k) h c =
    let f = scope_of m b in
    (c, ap (λ (x : Scope). nth_item x.temps k) (scope_again m b (record f { temps = with_nth_item f.temps k (value c) })) ∙ nth_put f.temps k c h.0 h.1)

-- an array of which an element is gone, and that element's store

module _ (x : ℕ) where
  pub last_gone : (es : List (Entry ℕ)) → times x (stores_of_entries (without_last es)) + times x (in_hand (entry_store (last_of es))) ≡ times x (stores_of_entries es)
  last_gone [] = refl
  last_gone (d ∷ []) = omega arith
  last_gone (d ∷ e ∷ es) = omega (arith, last_gone (e ∷ es))

  pub key_gone : (k : Key) (es : List (Entry ℕ)) → times x (stores_of_entries (without_key k es)) + times x (in_hand (entry_store (find (λ (e : Entry ℕ). key_eq k e.key) es))) ≡ times x (stores_of_entries es)
  key_gone k [] = refl
  key_gone k (d ∷ es) = by_test (key_eq k d.key) (key_gone k es)
    where
      by_test : (b : Bool) → times x (stores_of_entries (without_key k es)) + times x (in_hand (entry_store (find (λ (e : Entry ℕ). key_eq k e.key) es))) ≡ times x (stores_of_entries es) → times x (stores_of_entries (cond b es (d ∷ without_key k es))) + times x (in_hand (entry_store (cond b (Some d) (find (λ (e : Entry ℕ). key_eq k e.key) es)))) ≡ times x (stores_of_entries (d ∷ es))
      by_test true later = omega arith
      by_test false later = omega (arith, later)

  popped_names : (o : Option (Entry ℕ)) (t : Listing ℕ) → last_of t.entries ≡ o → times x (stores_of_entries (popped_entry o t).entries) + times x (in_hand (entry_store o)) ≡ times x (stores_of_entries t.entries)
  popped_names None t e = omega arith
  popped_names (Some d) t e = (let gone : times x (in_hand (entry_store (last_of t.entries))) ≡ times x (in_hand (entry_store (Some d))) = ap (λ o. times x (in_hand (entry_store o))) e in omega (arith, gone, last_gone t.entries))

  pub pop_names : (c : Content) → times x (stores_of_content (with_elements pop_entry c)) + times x (in_hand (last_store (elements_of c))) ≡ times x (stores_of_content c)
  unfolding pop_entry
  pop_names null = refl
  pop_names (truth b) = refl
  pop_names (int i) = refl
  pop_names (text bytes) = refl
  pop_names (array t) = popped_names (last_of t.entries) t refl
  pop_names (object h) = refl

  step_names : (step : Step) (t : Listing ℕ) → times x (stores_of_entries (without_step step t).entries) + times x (in_hand (step_store t step)) ≡ times x (stores_of_entries t.entries)
  unfolding remove_key
  step_names (At k) t = key_gone k t.entries
  step_names Push t = omega arith

  pub remove_names : (step : Step) (c : Content) → times x (stores_of_content (with_elements (without_step step) c)) + times x (in_hand (step_store_if (elements_of c) step)) ≡ times x (stores_of_content c)
  remove_names step null = refl
  remove_names step (truth b) = refl
  remove_names step (int i) = refl
  remove_names step (text bytes) = refl
  remove_names step (array t) = step_names step t
  remove_names step (object h) = refl

pub same_handles : (change : Listing ℕ → Listing ℕ) (c : Content) → handles_of_content (with_elements change c) ≡ handles_of_content c
same_handles change null = refl
same_handles change (truth b) = refl
same_handles change (int i) = refl
same_handles change (text bytes) = refl
same_handles change (array t) = refl
same_handles change (object h) = refl

-- an array without a key that it doesn't have is itself

key_missing : (k : Key) (es : List (Entry ℕ)) → entry_store (find (λ (e : Entry ℕ). key_eq k e.key) es) ≡ None → without_key k es ≡ es
key_missing k [] h = refl
key_missing k (d ∷ es) h = by_test (key_eq k d.key) (key_missing k es) h
  where
    by_test : (b : Bool) → (entry_store (find (λ (e : Entry ℕ). key_eq k e.key) es) ≡ None → without_key k es ≡ es) → entry_store (cond b (Some d) (find (λ (e : Entry ℕ). key_eq k e.key) es)) ≡ None → cond b es (d ∷ without_key k es) ≡ d ∷ es
    by_test true later h = absurd (none_some (sym h))
    by_test false later h = ap (λ ds. d ∷ ds) (later h)

step_missing : (step : Step) (t : Listing ℕ) → step_store t step ≡ None → without_step step t ≡ t
unfolding remove_key
step_missing (At k) t h = ap (λ es. record t { entries = es }) (key_missing k t.entries h)
step_missing Push t h = refl

-- what the model makes of it, whatever block the store falls in

popped_as : (o : Option (Entry ℕ)) (t : Listing ℕ) → last_of t.entries ≡ o → pop_entry t ≡ popped_entry o t
unfolding pop_entry
popped_as o t h = ap (λ p. popped_entry p t) h

module _ (m : Mem) (spot : Spot) (there : HasContent m spot) where
  pop_of : (o : Option (Entry ℕ)) (t : Listing ℕ) → array t ≡ content_at m spot → last_of t.entries ≡ o → (b : ℕ) → let_fall_if (with_content m spot (array (popped_entry o t))) b (entry_store o) ≡ last_removed o t m b spot
  pop_of None t e h b = put_same m spot there (array t) e
  pop_of (Some d) t e h b = ap (λ l. let_fall (with_content m spot (array l)) b (link d.value)) (sym (popped_as (Some d) t h))

  pub pop_is : (c : Content) → c ≡ content_at m spot → (b : ℕ) → let_fall_if (with_content m spot (with_elements pop_entry c)) b (last_store (elements_of c)) ≡ last_removed_in (elements_of c) m b spot
  pop_is null e b = put_same m spot there null e
  pop_is (truth x) e b = put_same m spot there (truth x) e
  pop_is (int i) e b = put_same m spot there (int i) e
  pop_is (text bytes) e b = put_same m spot there (text bytes) e
  pop_is (array t) e b = ap (λ l. let_fall_if (with_content m spot (array l)) b (entry_store (last_of t.entries))) (popped_as (last_of t.entries) t refl) ∙ pop_of (last_of t.entries) t e refl b
  pop_is (object h) e b = put_same m spot there (object h) e

  step_of : (o : Option ℕ) (step : Step) (t : Listing ℕ) → array t ≡ content_at m spot → step_store t step ≡ o → (b : ℕ) → let_fall_if (with_content m spot (array (without_step step t))) b o ≡ element_removed o t m b spot step
  step_of None step t e h b = ap (λ l. with_content m spot (array l)) (step_missing step t h) ∙ put_same m spot there (array t) e
  step_of (Some s) (At k) t e h b = refl
  step_of (Some s) Push t e h b = absurd (none_some h)

  pub remove_is : (step : Step) (c : Content) → c ≡ content_at m spot → (b : ℕ) → let_fall_if (with_content m spot (with_elements (without_step step) c)) b (step_store_if (elements_of c) step) ≡ removed_in_elements (elements_of c) m b spot step
  remove_is step null e b = put_same m spot there null e
  remove_is step (truth x) e b = put_same m spot there (truth x) e
  remove_is step (int i) e b = put_same m spot there (int i) e
  remove_is step (text bytes) e b = put_same m spot there (text bytes) e
  remove_is step (array t) e b = step_of (step_store t step) step t e refl b
  remove_is step (object h) e b = put_same m spot there (object h) e

-- where a content was taken out, there is a place for another
pub still_there : (s mid : Cells) (spot : Spot) → HasContent (memory_seen s) spot → memory_seen mid ≡ with_content (memory_seen s) spot null → HasContent (memory_seen mid) spot
still_there s mid spot there out = subst (λ m. HasContent m spot) (sym out) (has_put (memory_seen s) spot there null)

-- the content is taken out, changed and put back

module _ (s mid now : Cells) (spot : Spot) (there : HasContent (memory_seen s) spot) (c d : Content) (is : c ≡ content_at (memory_seen s) spot) (out : memory_seen mid ≡ with_content (memory_seen s) spot null) (back : memory_seen now ≡ with_content (memory_seen mid) spot d) where
  pub changed_seen : memory_seen now ≡ with_content (memory_seen s) spot d
  changed_seen = back ∙ ap (λ m. with_content m spot d) out ∙ put_twice (memory_seen s) spot null d

  module _ (taken : Option ℕ) (after : ℕ → Mem) (falls : (b : ℕ) → let_fall_if (with_content (memory_seen s) spot d) b taken ≡ after b) (names : (x : ℕ) → times x (stores_of_content d) + times x (in_hand taken) ≡ times x (stores_of_content c)) (handles : handles_of_content d ≡ handles_of_content c)
      (counted : IsCounted s)
      (counts_out : (k : ℕ) → count_of_store mid.stores k ≡ count_of_store s.stores k) (counts_back : (k : ℕ) → count_of_store now.stores k ≡ count_of_store mid.stores k)
      (objects_out : mid.objects ≡ s.objects) (objects_back : now.objects ≡ mid.objects)
      (waiting_out : AreWaitingKept s.blocks mid.blocks) (waiting_back : AreWaitingKept mid.blocks now.blocks)
      (ledger_out : mid.ledger ≡ s.ledger) (ledger_back : now.ledger ≡ mid.ledger) where
    pub element_taken : Takes s now taken after
    element_taken = record {
      seen = λ b. ap (λ m. let_fall_if m b taken) changed_seen ∙ falls b;
      counted =
          counted_by now (with_content (memory_seen s) spot d) (in_hand taken) [] changed_seen
          (λ k. (
          let old : times k (stores_of_content c) ≡ times k (stores_of_content (content_at (memory_seen s) spot)) = ap (λ x. times k (stores_of_content x)) is in
          omega (arith, counts_out k, counts_back k, counted.stores k, old, names k, holders-with_content k (memory_seen s) spot (real_of (memory_seen s) spot there) d)))
          (λ h. (
          let same : count_of_object now.objects.items h ≡ count_of_object s.objects.items h = ap (λ os. count_of_object os.items h) (objects_back ∙ objects_out) in
          let old : times h (handles_of_content d) ≡ times h (handles_of_content (content_at (memory_seen s) spot)) = ap (times h) handles ∙ ap (λ x. times h (handles_of_content x)) is in
          omega (arith, same, counted.objects h, old, handles-with_content h (memory_seen s) spot (real_of (memory_seen s) spot there) d)));
      waiting = λ b. waiting_back b ∙ waiting_out b;
      ledger = ledger_back ∙ ledger_out;
    }

-- an element was taken out of the array at a spot

module _ (s mid now : Cells) (spot : Spot) (there : HasContent (memory_seen s) spot) (c d : Content) (is : c ≡ content_at (memory_seen s) spot) (out : memory_seen mid ≡ with_content (memory_seen s) spot null) (back : memory_seen now ≡ with_content (memory_seen mid) spot d)
    (counted : IsCounted s)
    (counts_out : (k : ℕ) → count_of_store mid.stores k ≡ count_of_store s.stores k) (counts_back : (k : ℕ) → count_of_store now.stores k ≡ count_of_store mid.stores k)
    (objects_out : mid.objects ≡ s.objects) (objects_back : now.objects ≡ mid.objects)
    (waiting_out : AreWaitingKept s.blocks mid.blocks) (waiting_back : AreWaitingKept mid.blocks now.blocks)
    (ledger_out : mid.ledger ≡ s.ledger) (ledger_back : now.ledger ≡ mid.ledger) (taken : Option ℕ) where
  pub last_taken : d ≡ with_elements pop_entry c → taken ≡ last_store (elements_of c) → Takes s now taken (λ b. last_removed_in (elements_of (content_at (memory_seen s) spot)) (memory_seen s) b spot)
  last_taken same store =
      element_taken s mid now spot there c d is out back taken (λ b. last_removed_in (elements_of (content_at (memory_seen s) spot)) (memory_seen s) b spot)
      (λ b.
      ap (λ x. let_fall_if (with_content (memory_seen s) spot x) b taken) same
      ∙ ap (let_fall_if (with_content (memory_seen s) spot (with_elements pop_entry c)) b) store
      ∙ pop_is (memory_seen s) spot there c is b
      ∙ ap (λ x. last_removed_in (elements_of x) (memory_seen s) b spot) is)
      (λ k.
      ap (λ x. times k (stores_of_content x) + times k (in_hand taken)) same
      ∙ ap (λ o. times k (stores_of_content (with_elements pop_entry c)) + times k (in_hand o)) store
      ∙ pop_names k c)
      (ap handles_of_content same ∙ same_handles pop_entry c)
      counted counts_out counts_back objects_out objects_back waiting_out waiting_back ledger_out ledger_back

  pub step_taken : (step : Step) → d ≡ with_elements (without_step step) c → taken ≡ step_store_if (elements_of c) step → Takes s now taken (λ b. removed_in_elements (elements_of (content_at (memory_seen s) spot)) (memory_seen s) b spot step)
  step_taken step same store =
      element_taken s mid now spot there c d is out back taken (λ b. removed_in_elements (elements_of (content_at (memory_seen s) spot)) (memory_seen s) b spot step)
      (λ b.
      ap (λ x. let_fall_if (with_content (memory_seen s) spot x) b taken) same
      ∙ ap (let_fall_if (with_content (memory_seen s) spot (with_elements (without_step step) c)) b) store
      ∙ remove_is (memory_seen s) spot there step c is b
      ∙ ap (λ x. removed_in_elements (elements_of x) (memory_seen s) b spot step) is)
      (λ k.
      ap (λ x. times k (stores_of_content x) + times k (in_hand taken)) same
      ∙ ap (λ o. times k (stores_of_content (with_elements (without_step step) c)) + times k (in_hand o)) store
      ∙ remove_names k step c)
      (ap handles_of_content same ∙ same_handles (without_step step) c)
      counted counts_out counts_back objects_out objects_back waiting_out waiting_back ledger_out ledger_back
