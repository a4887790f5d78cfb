-- The arguments of a run come into the array of variable 0, one behind the other.
use Rattle.std.proofs.Common.{◌≡◌, ◌≢◌, ℕ, suc, ◌+◌, ◌<◌, ◌≤◌, false, List, [], ◌∷◌, ◌++◌, length, Option, Some, refl, sym, ap, ap₂, ◌∙◌, subst, pos, arith, length-append}
use Rattle.std.specs.Prelude.{unwrap_or, ◌||◌}
use Rattle.std.specs.List.{All}
use Rattle.std.proofs.lemmas.Bool.{lt-leb}
use Rattle.std.proofs.lemmas.List.Elements.{All-head, All-tail}
use Rattle.php_value.specs.declared.key.Key.TheVariants.{Int}
use Rattle.php_value.specs.declared.scalar.Scalar.TheVariants as scalar
use Rattle.php_entries.specs.Listing.{Listing, no_entries, count_of, is_full, is_at_limit, ENTRY_LIMIT, SERIAL_LIMIT, KEY_LIMIT}
use Rattle.php_entries.specs.Changes.{with_entry, entry_added, value_appended, append_value}
use Rattle.php_memdef.specs.declared.place.Step.TheVariants.{Push}
use Rattle.php_memdef.specs.declared.place.Place.{Place}
use Rattle.php_memdef.specs.declared.answer.Wrote.{Wrote}
use Rattle.php_memdef.specs.declared.answer.Wrote.TheVariants.{Done}
use Rattle.php_memdef.specs.Numbered.{numbered, with_next}
use Rattle.php_memdef.specs.Contents.{Content, null, array, Item, value, link, Variable, Scope, Mem, scope_of}
use Rattle.php_memdef.specs.Places.{stored, stored_if, content_at, with_content, with_new_store, with_scope, new_store_number, variable_store, variable_to_write, elements_of, elements_to_write, element_made, step_in_elements, walk_step, reached, walk}
use Rattle.php_memdef.specs.Sound.{IsShort}
use Rattle.php_memdef.specs.Temporaries.{content_of_scalar, pushed, push, popped, top_of, top, rest_of, fallen}
use Rattle.php_memdef.specs.Writes.{moved_in, assigned, assign}
use Rattle.php_memdef.specs.Views.{count_if, cost_along, cost_of}
use Rattle.php_memdef.specs.Operations.{Can, answer}
use Rattle.php_memdef.specs.Operations as op
use Rattle.php_memdef_laws.specs.Shapes.{shape, without_top, if_done}
use Rattle.php_memdef_laws.proofs.NumberedLemmas.{numbered-with_same, numbered-with_other, numbered-length}
use Rattle.php_actions.specs.PlaceForms.{variable}
use Rattle.php_actions.specs.Start.{variable_place}
use Rattle.php_runnable.proofs.Blocks.{Holds, block_there, stands, holds_as, after, here, scope-with, can_push, push_holds}
use Rattle.php_runnable.proofs.Steps.{moved_falling}

-- a new element behind all others in the array of variable 0
abbrev pub behind_all : ℕ → Place
behind_all b = variable_place b 0 (Push ∷ [])

-- the memory with a further word, with all of them
abbrev pub with_word : ℕ → List ℕ → Mem → Mem
with_word b word m = (assign (push m b (scalar.Str word)) b (behind_all b)).0

abbrev pub with_words : ℕ → List (List ℕ) → Mem → Mem
with_words b [] m = m
with_words b (word ∷ words) m = with_words b words (with_word b word m)

module _ (b : ℕ) where
  -- variable 0 holds an array with so many entries, which were all appended
  pub record HasArray (m : Mem) (k : ℕ) : Type 0 where
    pub store : ℕ
    pub listing : Listing ℕ
    pub variable_is : variable_store (scope_of m b).variables 0 ≡ Some store
    pub content_is : numbered m.stores store ≡ Some (array listing)
    pub count_is : count_of listing ≡ k
    pub next_key_is : listing.next_key ≡ k
    pub next_serial_is : listing.next_serial ≡ suc k

  pub pushed_variables : (m : Mem) (i : Item) → (scope_of (pushed m b i) b).variables ≡ (scope_of m b).variables
  pushed_variables m i = ap (λ (f : Scope). f.variables) (scope-with m b (record (scope_of m b) { temps = i ∷ (scope_of m b).temps }))

  pub pushed_top : (m : Mem) (i : Item) → top (pushed m b i) b ≡ i
  pushed_top m i = ap (λ (f : Scope). top_of f.temps) (scope-with m b (record (scope_of m b) { temps = i ∷ (scope_of m b).temps }))

  pushed_array : (m : Mem) (i : Item) (k : ℕ) → HasArray m k → HasArray (pushed m b i) k
  pushed_array m i k h = record {
    store = h.store;
    listing = h.listing;
    variable_is = ap (λ vs. variable_store vs 0) (pushed_variables m i) ∙ h.variable_is;
    content_is = h.content_is;
    count_is = h.count_is;
    next_key_is = h.next_key_is;
    next_serial_is = h.next_serial_is;
  }

  -- the variables stay where a temporary moves into a store
  moved_variables : (m : Mem) (s : ℕ) (c : Content) → (scope_of (moved_in (value c) m b (stored s)) b).variables ≡ (scope_of m b).variables
  moved_variables m s c =
      let now = with_content m (stored s) c in
      ap (λ (f : Scope). f.variables) (scope-with (popped now b) b (record (scope_of (popped now b) b) { falling = (scope_of (popped now b) b).falling ++ fallen (value (content_at m (stored s))) }))
      ∙ ap (λ (f : Scope). f.variables) (scope-with now b (record (scope_of now b) { temps = rest_of (scope_of now b).temps }))

  -- ---- an array without entries moves into the variable, which is the block's first

  module _ (m : Mem) (none : (scope_of m b).variables ≡ []) (top_is : top m b ≡ value (array no_entries)) where
    abbrev named_variables : List Variable
    named_variables = (scope_of m b).variables ++ record { name = 0; store = new_store_number m } ∷ []

    abbrev named : Mem
    named = with_scope (with_new_store m null) b (record (scope_of m b) { variables = named_variables })

    named_scope : scope_of named b ≡ record (scope_of m b) { variables = named_variables }
    named_scope = scope-with (with_new_store m null) b (record (scope_of m b) { variables = named_variables })

    named_top : top named b ≡ value (array no_entries)
    named_top = ap (λ (f : Scope). top_of f.temps) named_scope ∙ top_is

    moved_first : (i : Item) → i ≡ value (array no_entries) → HasArray (moved_in i named b (stored (new_store_number m))) 0
    moved_first (link l) e = absurd (cc)
    moved_first (value c) e =
        let is : c ≡ array no_entries = cc in
        record {
          store = new_store_number m;
          listing = no_entries;
          variable_is =
              ap (λ vs. variable_store vs 0) (moved_variables named (new_store_number m) c) ∙ ap (λ (f : Scope). variable_store f.variables 0) named_scope
              ∙ ap (λ vs. variable_store (vs ++ record { name = 0; store = new_store_number m } ∷ []) 0) none;
          content_is = numbered-with_same named.stores (new_store_number m) (Some c) ∙ ap Some is;
          count_is = refl;
          next_key_is = refl;
          next_serial_is = refl;
        }

    pub first_array : HasArray (assign m b (variable_place b 0 [])).0 0
    unfolding assign walk
    first_array =
        subst (λ (o : Option ℕ). HasArray (assigned (variable_to_write o m b 0) m b).0 0) (sym (ap (λ vs. variable_store vs 0) none))
        (moved_first (top named b) named_top)

  -- ---- a temporary moves behind all entries

  array_there : (m : Mem) (k : ℕ) (h : HasArray m k) → content_at m (stored h.store) ≡ array h.listing
  array_there m k h = ap (λ o. unwrap_or o null) h.content_is

  module _ (m : Mem) (k : ℕ) (h : HasArray m k) (few : k < ENTRY_LIMIT) (c : Content) (top_is : top m b ≡ value c) where
    abbrev store : ℕ
    store = new_store_number m

    abbrev grown : Listing ℕ
    grown = with_entry h.listing (Int (pos h.listing.next_key)) store

    abbrev made : Mem
    made = with_content (with_new_store m null) (stored h.store) (array grown)

    abbrev behind : Mem
    behind = moved_in (value c) made b (stored store)

    not_full : is_full h.listing ≡ false
    not_full = lt-leb KEY_LIMIT h.listing.next_key (omega (arith, few, h.next_key_is))

    not_at_limit : is_at_limit h.listing ≡ false
    not_at_limit = ap₂ (λ x y. x || y) (lt-leb ENTRY_LIMIT (count_of h.listing) (omega (arith, few, h.count_is))) (lt-leb SERIAL_LIMIT h.listing.next_serial (omega (arith, few, h.next_serial_is)))

    walk-is : walk m (variable b 0) (Push ∷ []) ≡ reached made (stored store)
    unfolding walk append_value
    walk-is =
        ap (λ o. walk_step (variable_to_write o m b 0) Push) h.variable_is
        ∙ ap (λ d. step_in_elements (elements_to_write d) m (stored h.store) Push) (array_there m k h)
        ∙ ap (λ t. element_made (value_appended t h.listing store) m (stored h.store)) not_full
        ∙ ap (λ t. element_made (entry_added t h.listing (Int (pos h.listing.next_key)) store) m (stored h.store)) not_at_limit

    pub assign-is : assign m b (behind_all b) ≡ (behind, Done)
    unfolding assign
    assign-is = ap (λ w. assigned w m b) walk-is ∙ ap (λ i. (moved_in i made b (stored store), Done)) top_is

    apart : h.store ≢ store
    apart e =
        let gone = sym (numbered-length m.stores) ∙ ap (numbered m.stores) (sym e) ∙ h.content_is in
        absurd (cc)

    more : HasArray behind (suc k)
    more = record {
      store = h.store;
      listing = grown;
      variable_is = ap (λ vs. variable_store vs 0) (moved_variables made store c) ∙ h.variable_is;
      content_is = numbered-with_other made.stores store h.store (Some c) apart ∙ numbered-with_same (with_next m.stores null) h.store (Some (array grown));
      count_is = omega (arith, h.count_is, length-append h.listing.entries (record { serial = h.listing.next_serial; key = Int (pos h.listing.next_key); value = store } ∷ []));
      next_key_is = omega (arith, h.next_key_is);
      next_serial_is = omega (arith, h.next_serial_is);
    }

    pub one_more : HasArray (assign m b (behind_all b)).0 (suc k)
    one_more = subst (λ (a : Mem × Wrote). HasArray a.0 (suc k)) (sym assign-is) more

  -- what that costs: a step, and the entries that are there
  pub cost_is : (m : Mem) (k : ℕ) → HasArray m k → cost_of m (behind_all b) ≡ suc k
  cost_is m k h =
      let at_variable = ap (λ o. cost_along m (stored_if o) (Push ∷ [])) h.variable_is in
      let at_array = ap (λ d. 1 + (count_if (elements_of d) + 0)) (array_there m k h) in
      omega (arith, at_variable, at_array, h.count_is)

  -- ---- words

  module _ (room : ℕ) (some : 0 < room) where
    -- nothing stands in the block, and variable 0 holds an array with so many entries
    pub record Takes (m : Mem) (k q : ℕ) : Type 0 where
      pub holds : Holds b room m 0 q
      pub has : HasArray m k

    module _ (m : Mem) (k q : ℕ) (s : Takes m k q) (word : List ℕ) (short : IsShort word) where
      pub can_push_word : Can (op.push b (scalar.Str word)) m
      can_push_word = can_push b room m 0 q s.holds (scalar.Str word) short some

      word_holds : Holds b room (push m b (scalar.Str word)) 1 q
      word_holds = push_holds b room m 0 q s.holds (scalar.Str word) can_push_word

      pub can_assign_word : Can (op.assign b (behind_all b)) (push m b (scalar.Str word))
      can_assign_word =
          let st = stands b room (push m b (scalar.Str word)) 1 q word_holds 0 (omega arith) in
          let there = block_there b room (push m b (scalar.Str word)) 1 q word_holds in
          record { block = there; top = (st.content, st.there); place = (there, tt); below_top = tt }

      pub word_on_top : HasArray (push m b (scalar.Str word)) k × (top (push m b (scalar.Str word)) b ≡ value (content_of_scalar (scalar.Str word)))
      unfolding push
      word_on_top = (pushed_array m (value (content_of_scalar (scalar.Str word))) k s.has, pushed_top m (value (content_of_scalar (scalar.Str word))))

      module _ (few : k < ENTRY_LIMIT) where
        abbrev ready : Mem
        ready = push m b (scalar.Str word)

        word_assigned : assign ready b (behind_all b) ≡ (behind ready k word_on_top.0 few (content_of_scalar (scalar.Str word)) word_on_top.1, Done)
        word_assigned = assign-is ready k word_on_top.0 few (content_of_scalar (scalar.Str word)) word_on_top.1

        word_falling : length (scope_of (assign ready b (behind_all b)).0 b).falling ≤ suc q
        word_falling =
            let c = content_of_scalar (scalar.Str word) in
            let l = made ready k word_on_top.0 few c word_on_top.1 in
            let bound = moved_falling b room (value c) l (store ready k word_on_top.0 few c word_on_top.1) in
            omega (arith, word_holds.falling, bound, ap (λ (a : Mem × Wrote). length (scope_of a.0 b).falling) word_assigned)

        pub word_taken : Takes (with_word b word m) (suc k) (suc q)
        word_taken = record {
          holds =
              after b room (op.assign b (behind_all b)) ready 1 q 0 (suc q) word_holds can_assign_word tt (λ h. refl)
              (here b (if_done (answer (op.assign b (behind_all b)) ready) (without_top (shape ready b)) (shape ready b)) (shape ready b)
              ∙ ap (λ (a : Mem × Wrote). if_done a.1 (without_top (shape ready b)) (shape ready b)) word_assigned ∙ ap without_top word_holds.looks)
              word_falling;
          has = one_more ready k word_on_top.0 few (content_of_scalar (scalar.Str word)) word_on_top.1;
        }

    takes_as : (m : Mem) (k q j r : ℕ) → Takes m k q → k ≡ j → q ≤ r → Takes m j r
    takes_as m k q j r s e l = record { holds = holds_as b room m 0 0 q r s.holds refl l; has = subst (λ i. HasArray m i) e s.has }

    pub words_taken : (words : List (List ℕ)) (m : Mem) (k q : ℕ) → Takes m k q → All IsShort words → k + length words ≤ ENTRY_LIMIT → Takes (with_words b words m) (k + length words) (q + length words)
    words_taken [] m k q s short few = takes_as m k q (k + 0) (q + 0) s (omega arith) (omega arith)
    words_taken (word ∷ words) m k q s short few =
        takes_as (with_words b words (with_word b word m)) (suc k + length words) (suc q + length words) (k + suc (length words)) (q + suc (length words))
        (words_taken words (with_word b word m) (suc k) (suc q) (word_taken m k q s word (All-head IsShort word words short) (omega (arith, few))) (All-tail IsShort word words short) (omega (arith, few)))
        (omega arith) (omega arith)
