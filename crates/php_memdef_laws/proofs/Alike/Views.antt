-- What alike memories show, and what may be called on them.
use Rattle.std.proofs.Common.{◌≡◌, ℕ, zero, suc, ◌+◌, ◌<◌, List, [], ◌∷◌, length, refl, sym, ◌∙◌, ap, subst, arith, cond}
use Rattle.std.specs.Prelude.{false, Option, Some, None, IsSome, option_map}
use Rattle.php_value.specs.declared.key.Key.{Key}
use Rattle.php_value.specs.declared.scalar.Scalar.{Scalar}
use Rattle.php_entries.specs.Listing.{Entry, Listing, entry_after}
use Rattle.php_entries.specs.Changes.{map_entry, map_entries, map_listing}
use Rattle.php_entries.proofs.MapLemmas.{entry_after-map}
use Rattle.php_memdef.specs.declared.place.Base.{Base}
use Rattle.php_memdef.specs.declared.place.Base.TheVariants.{Var, Property as OfObject, Static, Temp}
use Rattle.php_memdef.specs.declared.place.Step.{Step}
use Rattle.php_memdef.specs.declared.place.Place.{Place}
use Rattle.php_memdef.specs.declared.answer.Peek.{Peek}
use Rattle.php_memdef.specs.declared.answer.Peek.TheVariants.{Absent, Null, Bool as Truth, Int, Str, Arr, Obj}
use Rattle.php_memdef.specs.Numbered.{Numbered, numbered, total}
use Rattle.php_memdef.specs.Contents.{Content, null, truth, int, text, array, object, Item, value, link, Scope, Property, Object, Mem, scope_of, object_of}
use Rattle.php_memdef.specs.Holders.{entries_of_content, entries_of_items, links_of_items, vslots_of_scope, vslots}
use Rattle.php_memdef.specs.Places.{Spot, stored, standing, nth_item, next_spot, base_spot, find_place}
use Rattle.php_memdef.specs.Objects.{is_due, first_due, eldest, nth_property, property_name, class_of}
use Rattle.php_memdef.specs.Views.{content_if_found, found, Shows, elements_if_found, entry_if_later, later_entry, is_spot_shared, is_aliased, is_link_item, is_link, counted_if, steps_along, spot_or, end_along, steps_met, end_met, temps_count, count_if, cost_along, cost_of}
use Rattle.php_memdef.specs.Conditions.{IsBlock, IsObject, HasRoom, HasFallingRoom, HasTemp, HasValueOnTop, HasLinkOnTop, HasHandleOnTop, IsBase, IsPlace, IsLinkable, CanLeave, CanPush, CanPushArray, CanCopy, CanAssign, CanLink, CanBind, CanSettle, CanTurn, CanAppend, CanPass, CanUnset, CanUnsetLast, CanForget, CanDropTop, CanPushObject, CanMakeObject, CanClone, CanAttach}
use Rattle.php_memdef.specs.Alike.{map_if, renamed_content, renamed_item, renamed_items, renamed_variables, renamed_scope, renamed_properties, renamed_object, IsRenamed}
use Rattle.php_memdef_laws.proofs.Alike.Memories.{scope_of-renamed, object_of-renamed}
use Rattle.php_memdef_laws.proofs.Alike.Places.{renamed_spot, elements_of-renamed, content_at-renamed, nth_temp-renamed, base_spot-renamed, next_spot-renamed, find_place-renamed}
use Rattle.php_memdef_laws.proofs.Alike.Totals.{is_shared-renamed, total_same, stores_total}

pub length_entries : (to : ℕ → ℕ) (es : List (Entry ℕ)) → length (map_entries to es) ≡ length es
length_entries to [] = refl
length_entries to (e ∷ es) = ap suc (length_entries to es)

length_items : (to : ℕ → ℕ) (is : List Item) → length (renamed_items to is) ≡ length is
length_items to [] = refl
length_items to (i ∷ is) = ap suc (length_items to is)

length_properties : (to : ℕ → ℕ) (ps : List Property) → length (renamed_properties to ps) ≡ length ps
length_properties to [] = refl
length_properties to (p ∷ ps) = ap suc (length_properties to ps)

shows-renamed : (to : ℕ → ℕ) (p : Peek) (o : Option Content) → Shows p o → Shows p (map_if (renamed_content to) o)
shows-renamed to Absent o h = ap (map_if (renamed_content to)) h
shows-renamed to Null o h = ap (map_if (renamed_content to)) h
shows-renamed to (Truth b) o h = ap (map_if (renamed_content to)) h
shows-renamed to (Int i) o h = ap (map_if (renamed_content to)) h
shows-renamed to (Str t) o h = ap (map_if (renamed_content to)) h
shows-renamed to (Arr n) o h = (map_listing to h.0, ap (map_if (renamed_content to)) h.1, h.2 ∙ sym (length_entries to h.0.entries))
shows-renamed to (Obj n) o h = ap (map_if (renamed_content to)) h

pub elements_if-renamed : (to : ℕ → ℕ) (o : Option Content) → elements_if_found (map_if (renamed_content to) o) ≡ map_if (map_listing to) (elements_if_found o)
elements_if-renamed to None = refl
elements_if-renamed to (Some c) = elements_of-renamed to c

abbrev serial_and_key : Entry ℕ → ℕ × Key
serial_and_key e = (e.serial, e.key)

pair_of_entry : (to : ℕ → ℕ) (o : Option (Entry ℕ)) → option_map serial_and_key (option_map (map_entry to) o) ≡ option_map serial_and_key o
pair_of_entry to None = refl
pair_of_entry to (Some e) = refl

later-renamed : (to : ℕ → ℕ) (o : Option (Listing ℕ)) (serial : ℕ) → entry_if_later (map_if (map_listing to) o) serial ≡ entry_if_later o serial
later-renamed to None serial = refl
later-renamed to (Some t) serial = ap (option_map serial_and_key) (entry_after-map to t serial) ∙ pair_of_entry to (entry_after t serial)

count-renamed : (to : ℕ → ℕ) (o : Option (Listing ℕ)) → count_if (map_if (map_listing to) o) ≡ count_if o
count-renamed to None = refl
count-renamed to (Some t) = length_entries to t.entries

due-renamed : (to : ℕ → ℕ) (o : Option Object) → is_due (map_if (renamed_object to) o) ≡ is_due o
due-renamed to None = refl
due-renamed to (Some o) = refl

none_due : (os : Numbered Object) (from : ℕ) → ((h : ℕ) → is_due (numbered os h) ≡ false) → first_due os from ≡ None
none_due [] from h = refl
none_due (o ∷ os) from h = let first : is_due o ≡ false = h 0 in ap (λ b. cond b (Some from) (first_due os (suc from))) first ∙ none_due os (suc from) (λ k. h (suc k))

first_due-same : (os ps : Numbered Object) (from : ℕ) → ((h : ℕ) → is_due (numbered ps h) ≡ is_due (numbered os h)) → first_due ps from ≡ first_due os from
first_due-same [] ps from h = none_due ps from h
first_due-same (o ∷ os) [] from h = sym (none_due (o ∷ os) from (λ k. sym (h k)))
first_due-same (o ∷ os) (p ∷ ps) from h =
    let first : is_due p ≡ is_due o = h 0 in
    ap (λ b. cond b (Some from) (first_due ps (suc from))) first ∙ ap (λ r. cond (is_due o) (Some from) r) (first_due-same os ps (suc from) (λ k. h (suc k)))

nth_property-renamed : (to : ℕ → ℕ) (ps : List Property) (n : ℕ) → nth_property (renamed_properties to ps) n ≡ nth_property ps n
nth_property-renamed to [] n = refl
nth_property-renamed to (p ∷ ps) zero = refl
nth_property-renamed to (p ∷ ps) (suc n) = nth_property-renamed to ps n

content_entries : (to : ℕ → ℕ) (c : Content) → entries_of_content (renamed_content to c) ≡ entries_of_content c
content_entries to null = refl
content_entries to (truth b) = refl
content_entries to (int i) = refl
content_entries to (text bytes) = refl
content_entries to (array t) = length_entries to t.entries
content_entries to (object h) = refl

items_entries : (to : ℕ → ℕ) (is : List Item) → entries_of_items (renamed_items to is) ≡ entries_of_items is
items_entries to [] = refl
items_entries to (value c ∷ is) = ap (λ n. n + entries_of_items (renamed_items to is)) (content_entries to c) ∙ ap (λ n. entries_of_content c + n) (items_entries to is)
items_entries to (link s ∷ is) = items_entries to is

items_links : (to : ℕ → ℕ) (is : List Item) → links_of_items (renamed_items to is) ≡ links_of_items is
items_links to [] = refl
items_links to (value c ∷ is) = items_links to is
items_links to (link s ∷ is) = ap (λ n. 1 + n) (items_links to is)

scope_vslots : (to : ℕ → ℕ) (f : Scope) → vslots_of_scope (renamed_scope to f) ≡ vslots_of_scope f
scope_vslots to f =
    let a : entries_of_items (renamed_items to f.temps) ≡ entries_of_items f.temps = items_entries to f.temps in
    let b : entries_of_items (renamed_items to f.falling) ≡ entries_of_items f.falling = items_entries to f.falling in
    let c : links_of_items (renamed_items to f.falling) ≡ links_of_items f.falling = items_links to f.falling in
    omega (arith, a, b, c)

still_some : {X Y : Type 0} (f : X → Y) (o : Option X) → IsSome o → IsSome (map_if f o)
still_some f None h = h
still_some f (Some x) h = refl

module _ (to back : ℕ → ℕ) (m n : Mem) (r : IsRenamed to back m n) where
  content_if-renamed : (o : Option Spot) → content_if_found n (map_if (renamed_spot to) o) ≡ map_if (renamed_content to) (content_if_found m o)
  content_if-renamed None = refl
  content_if-renamed (Some spot) = ap Some (content_at-renamed to back m n r spot)

  pub found-renamed : (p : Place) → found n p ≡ map_if (renamed_content to) (found m p)
  found-renamed p = ap (content_if_found n) (find_place-renamed to back m n r p) ∙ content_if-renamed (find_place m p)

  pub Shows-alike : (look : Peek) (p : Place) → Shows look (found m p) → Shows look (found n p)
  Shows-alike look p h = subst (λ (o : Option Content). Shows look o) (sym (found-renamed p)) (shows-renamed to look (found m p) h)

  pub later_entry-alike : (p : Place) (serial : ℕ) → later_entry n p serial ≡ later_entry m p serial
  later_entry-alike p serial =
      ap (λ o. entry_if_later (elements_if_found o) serial) (found-renamed p)
      ∙ ap (λ o. entry_if_later o serial) (elements_if-renamed to (found m p))
      ∙ later-renamed to (elements_if_found (found m p)) serial

  shared-renamed : (o : Option Spot) → is_spot_shared n (map_if (renamed_spot to) o) ≡ is_spot_shared m o
  shared-renamed None = refl
  shared-renamed (Some (stored s)) = is_shared-renamed to back m n r s
  shared-renamed (Some (standing b k)) = refl

  pub is_aliased-alike : (p : Place) → is_aliased n p ≡ is_aliased m p
  is_aliased-alike p = ap (is_spot_shared n) (find_place-renamed to back m n r p) ∙ shared-renamed (find_place m p)

  temps_length : (b : ℕ) → length (scope_of n b).temps ≡ length (scope_of m b).temps
  temps_length b = ap (λ f. length f.temps) (scope_of-renamed to back m n r b) ∙ length_items to (scope_of m b).temps

  falling_length : (b : ℕ) → length (scope_of n b).falling ≡ length (scope_of m b).falling
  falling_length b = ap (λ f. length f.falling) (scope_of-renamed to back m n r b) ∙ length_items to (scope_of m b).falling

  room_same : (b : ℕ) → (scope_of n b).room ≡ (scope_of m b).room
  room_same b = ap (λ f. f.room) (scope_of-renamed to back m n r b)

  pub temps_count-alike : (b : ℕ) → temps_count n b ≡ temps_count m b
  temps_count-alike b = temps_length b

  cost_along-alike : (o : Option Spot) (path : List Step) → cost_along n (map_if (renamed_spot to) o) path ≡ cost_along m o path
  cost_along-alike o [] = refl
  cost_along-alike o (step ∷ path) =
      let a : count_if (elements_if_found (content_if_found n (map_if (renamed_spot to) o))) ≡ count_if (elements_if_found (content_if_found m o)) = ap (λ c. count_if (elements_if_found c)) (content_if-renamed o) ∙ ap count_if (elements_if-renamed to (content_if_found m o)) ∙ count-renamed to (elements_if_found (content_if_found m o)) in
      let b : cost_along n (next_spot n (map_if (renamed_spot to) o) step) path ≡ cost_along m (next_spot m o step) path = ap (λ p. cost_along n p path) (next_spot-renamed to back m n r o step) ∙ cost_along-alike (next_spot m o step) path in
      omega (arith, a, b)

  pub cost_of-alike : (p : Place) → cost_of n p ≡ cost_of m p
  cost_of-alike p = ap (λ o. cost_along n o p.path) (base_spot-renamed to back m n r p.base) ∙ cost_along-alike (base_spot m p.base) p.path

  link_item : (o : Option Item) → is_link_item (map_if (renamed_item to) o) ≡ is_link_item o
  link_item None = refl
  link_item (Some (value c)) = refl
  link_item (Some (link s)) = refl

  pub is_link-alike : (b k : ℕ) → is_link n b k ≡ is_link m b k
  is_link-alike b k = ap is_link_item (nth_temp-renamed to back m n r b k) ∙ link_item (nth_item (scope_of m b).temps k)

  counted : (o : Option Spot) (k : ℕ) → counted_if (map_if (renamed_spot to) o) k ≡ counted_if o k
  counted None k = refl
  counted (Some spot) k = refl

  steps_along-alike : (o : Option Spot) (path : List Step) → steps_along n (map_if (renamed_spot to) o) path ≡ steps_along m o path
  steps_along-alike o [] = refl
  steps_along-alike o (step ∷ path) =
      ap (λ p. counted_if p (steps_along n p path)) (next_spot-renamed to back m n r o step)
      ∙ counted (next_spot m o step) (steps_along n (map_if (renamed_spot to) (next_spot m o step)) path)
      ∙ ap (counted_if (next_spot m o step)) (steps_along-alike (next_spot m o step) path)

  pub steps_met-alike : (p : Place) → steps_met n p ≡ steps_met m p
  steps_met-alike p = ap (λ o. steps_along n o p.path) (base_spot-renamed to back m n r p.base) ∙ steps_along-alike (base_spot m p.base) p.path

  either : (o p : Option Spot) → spot_or (map_if (renamed_spot to) o) (map_if (renamed_spot to) p) ≡ map_if (renamed_spot to) (spot_or o p)
  either None p = refl
  either (Some spot) p = refl

  end_along-renamed : (o : Option Spot) (path : List Step) → end_along n (map_if (renamed_spot to) o) path ≡ map_if (renamed_spot to) (end_along m o path)
  end_along-renamed o [] = refl
  end_along-renamed o (step ∷ path) =
      ap (λ p. spot_or (end_along n p path) (map_if (renamed_spot to) o)) (next_spot-renamed to back m n r o step)
      ∙ ap (λ p. spot_or p (map_if (renamed_spot to) o)) (end_along-renamed (next_spot m o step) path)
      ∙ either (end_along m (next_spot m o step) path) o

  end_met-renamed : (p : Place) → end_met n p ≡ map_if (renamed_content to) (end_met m p)
  end_met-renamed p =
      ap (λ o. content_if_found n (end_along n o p.path)) (base_spot-renamed to back m n r p.base)
      ∙ ap (content_if_found n) (end_along-renamed (base_spot m p.base) p.path)
      ∙ content_if-renamed (end_along m (base_spot m p.base) p.path)

  pub end_met-alike : (look : Peek) (p : Place) → Shows look (end_met m p) → Shows look (end_met n p)
  end_met-alike look p h = subst (λ (o : Option Content). Shows look o) (sym (end_met-renamed p)) (shows-renamed to look (end_met m p) h)

  pub vslots-alike : vslots n ≡ vslots m
  unfolding vslots
  vslots-alike =
      let a : total entries_of_content n.stores ≡ total entries_of_content m.stores = stores_total to back m n r entries_of_content entries_of_content (content_entries to) in
      let b : total (λ o. length o.properties) n.objects ≡ total (λ o. length o.properties) m.objects = total_same (λ (o : Object). length o.properties) (λ (o : Object). length o.properties) (renamed_object to) (λ o. length_properties to o.properties) m.objects n.objects r.objects in
      let c : total vslots_of_scope n.blocks ≡ total vslots_of_scope m.blocks = total_same vslots_of_scope vslots_of_scope (renamed_scope to) (scope_vslots to) m.blocks n.blocks r.blocks in
      omega (arith, a, b, c)

  pub eldest-alike : eldest n ≡ eldest m
  eldest-alike = first_due-same m.objects n.objects 0 (λ h. ap is_due (r.objects h) ∙ due-renamed to (numbered m.objects h))

  pub property_name-alike : (h k : ℕ) → property_name n h k ≡ property_name m h k
  property_name-alike h k = ap (λ o. nth_property o.properties k) (object_of-renamed to back m n r h) ∙ nth_property-renamed to (object_of m h).properties k

  pub class_of-alike : (h : ℕ) → class_of n h ≡ class_of m h
  class_of-alike h = ap (λ o. o.class) (object_of-renamed to back m n r h)

  -- conditions

  pub IsBlock-alike : (b : ℕ) → IsBlock m b → IsBlock n b
  IsBlock-alike b h = subst (λ (o : Option Scope). IsSome o) (sym (r.blocks b)) (still_some (renamed_scope to) (numbered m.blocks b) h)

  pub IsObject-alike : (k : ℕ) → IsObject m k → IsObject n k
  IsObject-alike k h = subst (λ (o : Option Object). IsSome o) (sym (r.objects k)) (still_some (renamed_object to) (numbered m.objects k) h)

  HasRoom-alike : (b : ℕ) → HasRoom m b → HasRoom n b
  HasRoom-alike b h = omega (arith, h, temps_length b, room_same b)

  HasFallingRoom-alike : (b : ℕ) → HasFallingRoom m b → HasFallingRoom n b
  HasFallingRoom-alike b h = omega (arith, h, falling_length b, room_same b)

  HasTemp-alike : (b : ℕ) → HasTemp m b → HasTemp n b
  HasTemp-alike b h = omega (arith, h, temps_length b)

  HasValueOnTop-alike : (b : ℕ) → HasValueOnTop m b → HasValueOnTop n b
  HasValueOnTop-alike b h = (renamed_content to h.0, nth_temp-renamed to back m n r b 0 ∙ ap (map_if (renamed_item to)) h.1)

  HasLinkOnTop-alike : (b : ℕ) → HasLinkOnTop m b → HasLinkOnTop n b
  HasLinkOnTop-alike b h = (to h.0, nth_temp-renamed to back m n r b 0 ∙ ap (map_if (renamed_item to)) h.1)

  HasHandleOnTop-alike : (b : ℕ) → HasHandleOnTop m b → HasHandleOnTop n b
  HasHandleOnTop-alike b h = (h.0, nth_temp-renamed to back m n r b 0 ∙ ap (map_if (renamed_item to)) h.1)

  IsBase-alike : (base : Base) → IsBase m base → IsBase n base
  IsBase-alike (Var b k) h = IsBlock-alike b.0 h
  IsBase-alike (OfObject k p) h = (IsObject-alike k.0 h.0, h.1)
  IsBase-alike (Static i) h = h
  IsBase-alike (Temp b k) h = (IsBlock-alike b.0 h.0, let below : k < length (scope_of m b.0).temps = h.1 in omega (arith, below, temps_length b.0))

  pub IsPlace-alike : (p : Place) → IsPlace m p → IsPlace n p
  IsPlace-alike p h = (IsBase-alike p.base h.0, h.1)

  IsLinkable-alike : (base : Base) (path : List Step) → IsLinkable m base path → IsLinkable n base path
  IsLinkable-alike (Var b k) path h = h
  IsLinkable-alike (OfObject k p) path h = h
  IsLinkable-alike (Static i) path h = h
  IsLinkable-alike (Temp b k) [] h = (to h.0, nth_temp-renamed to back m n r b.0 k ∙ ap (map_if (renamed_item to)) h.1)
  IsLinkable-alike (Temp b k) (step ∷ path) h = h

  frame_same : (h : ℕ) → (object_of n h).frame ≡ (object_of m h).frame
  frame_same h = ap (λ o. o.frame) (object_of-renamed to back m n r h)

  pub CanLeave-alike : (b : ℕ) → CanLeave b m → CanLeave b n
  CanLeave-alike b h = record {
    block = IsBlock-alike b h.block;
    no_variables = ap (λ f. f.variables) (scope_of-renamed to back m n r b) ∙ ap (renamed_variables to) h.no_variables;
    no_temps = ap (λ f. f.temps) (scope_of-renamed to back m n r b) ∙ ap (renamed_items to) h.no_temps;
    no_falling = ap (λ f. f.falling) (scope_of-renamed to back m n r b) ∙ ap (renamed_items to) h.no_falling;
    no_frame = λ k e. h.no_frame k (sym (frame_same k) ∙ e);
  }

  pub CanPush-alike : (b : ℕ) (v : Scalar) → CanPush b v m → CanPush b v n
  CanPush-alike b v h = record { block = IsBlock-alike b h.block; room = HasRoom-alike b h.room; within = h.within }

  pub CanPushArray-alike : (b : ℕ) → CanPushArray b m → CanPushArray b n
  CanPushArray-alike b h = record { block = IsBlock-alike b h.block; room = HasRoom-alike b h.room }

  pub CanCopy-alike : (b : ℕ) (p : Place) → CanCopy b p m → CanCopy b p n
  CanCopy-alike b p h = record { block = IsBlock-alike b h.block; room = HasRoom-alike b h.room; place = IsPlace-alike p h.place }

  pub CanAssign-alike : (b : ℕ) (p : Place) → CanAssign b p m → CanAssign b p n
  CanAssign-alike b p h = record { block = IsBlock-alike b h.block; top = HasValueOnTop-alike b h.top; place = IsPlace-alike p h.place; below_top = h.below_top }

  pub CanLink-alike : (b : ℕ) (p : Place) → CanLink b p m → CanLink b p n
  CanLink-alike b p h = record { block = IsBlock-alike b h.block; room = HasRoom-alike b h.room; place = IsPlace-alike p h.place; linkable = IsLinkable-alike p.base p.path h.linkable }

  pub CanBind-alike : (b : ℕ) (p : Place) → CanBind b p m → CanBind b p n
  CanBind-alike b p h = record { block = IsBlock-alike b h.block; top = HasLinkOnTop-alike b h.top; place = IsPlace-alike p h.place; below_top = h.below_top; pointed = h.pointed }

  pub CanSettle-alike : (b : ℕ) → CanSettle b m → CanSettle b n
  CanSettle-alike b h = record { block = IsBlock-alike b h.block; top = HasLinkOnTop-alike b h.top; falling_room = HasFallingRoom-alike b h.falling_room }

  pub CanTurn-alike : (b k : ℕ) → CanTurn b k m → CanTurn b k n
  CanTurn-alike b k h = record { block = IsBlock-alike b h.block; enough = omega (arith, h.enough, temps_length b) }

  pub CanAppend-alike : (b : ℕ) (p : Place) → CanAppend b p m → CanAppend b p n
  CanAppend-alike b p h = record {
    block = IsBlock-alike b h.block;
    place = IsPlace-alike p h.place;
    below_top = h.below_top;
    before = h.before;
    behind = h.behind;
    there = found-renamed p ∙ ap (map_if (renamed_content to)) h.there;
    top = nth_temp-renamed to back m n r b 0 ∙ ap (map_if (renamed_item to)) h.top;
    short = h.short;
  }

  pub CanPass-alike : (b c : ℕ) → CanPass b c m → CanPass b c n
  CanPass-alike b c h = record { from_block = IsBlock-alike b h.from_block; to_block = IsBlock-alike c h.to_block; top = HasTemp-alike b h.top; room = HasRoom-alike c h.room }

  pub CanUnset-alike : (b : ℕ) (p : Place) → CanUnset b p m → CanUnset b p n
  CanUnset-alike b p h = record { block = IsBlock-alike b h.block; place = IsPlace-alike p h.place; removable = h.removable }

  pub CanUnsetLast-alike : (b : ℕ) (p : Place) → CanUnsetLast b p m → CanUnsetLast b p n
  CanUnsetLast-alike b p h = record { block = IsBlock-alike b h.block; place = IsPlace-alike p h.place }

  pub CanForget-alike : (b : ℕ) → CanForget b m → CanForget b n
  CanForget-alike b h = record { block = IsBlock-alike b h.block; falling_room = HasFallingRoom-alike b h.falling_room }

  pub CanDropTop-alike : (b : ℕ) → CanDropTop b m → CanDropTop b n
  CanDropTop-alike b h = record { block = IsBlock-alike b h.block; top = HasTemp-alike b h.top; falling_room = HasFallingRoom-alike b h.falling_room }

  pub CanPushObject-alike : (b k : ℕ) → CanPushObject b k m → CanPushObject b k n
  CanPushObject-alike b k h = record { block = IsBlock-alike b h.block; object = IsObject-alike k h.object; room = HasRoom-alike b h.room }

  pub CanMakeObject-alike : (b : ℕ) → CanMakeObject b m → CanMakeObject b n
  CanMakeObject-alike b h = record { block = IsBlock-alike b h.block; room = HasRoom-alike b h.room }

  pub CanClone-alike : (b : ℕ) → CanClone b m → CanClone b n
  CanClone-alike b h = record { block = IsBlock-alike b h.block; top = HasHandleOnTop-alike b h.top }

  pub CanAttach-alike : (k : ℕ) (f : Option ℕ) → CanAttach k f m → CanAttach k f n
  CanAttach-alike k f h = record {
    object = IsObject-alike k h.object;
    frame_live = λ b e. IsBlock-alike b (h.frame_live b e);
    frame_apart = λ b g e d. h.frame_apart b g e (sym (frame_same g) ∙ d);
  }
