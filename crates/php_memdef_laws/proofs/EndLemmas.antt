-- A release comes to its end: each turn that goes on leaves fewer names, stores and values to go through.
use Rattle.std.proofs.Common.{◌≡◌, ℕ, zero, suc, ◌+◌, ◌<◌, ◌≤◌, List, [], ◌∷◌, ◌++◌, length, refl, sym, ◌∙◌, ap, arith, length-append}
use Rattle.std.specs.Prelude.{Bool, true, false, ◌&&◌, not, Option, Some, None, unwrap_or}
use Rattle.php_entries.specs.Listing.{Entry}
use Rattle.php_memdef.specs.declared.answer.Fallen.{Fallen}
use Rattle.php_memdef.specs.declared.answer.Fallen.TheVariants.{Nothing, Destroy, Frame as FrameOf}
use Rattle.php_memdef.specs.Numbered.{numbered, with_numbered, weight_if, total}
use Rattle.php_memdef.specs.Contents.{Content, null, truth, int, text, array, object, Item, value, link, Property, Scope, Object, Mem, no_scope, no_object, content_of, scope_of, object_of}
use Rattle.php_memdef.specs.Holders.{stores_of_entries, stores_of_content, stores_of_item, stores_of_items, stores_of_variables, stores_of_scope, stores_of_properties, stores_of_object}
use Rattle.php_memdef.specs.Temporaries.{with_falling, fallen}
use Rattle.php_memdef.specs.Releases.{entry_links, property_links, Turn, goes_on, stops, link_dropped, object_removed, object_released, handle_dropped, is_held, is_object_held, item_released, first_released, turn, fall_after, fall_within, values_of, turns, fall}
use Rattle.php_memdef_laws.proofs.NumberedLemmas.{numbered-with_same, total-with}

abbrev content_names : Content → ℕ
content_names c = length (stores_of_content c)

abbrev item_names : List Item → ℕ
item_names is = length (stores_of_items is)

item_names-append : (is js : List Item) → item_names (is ++ js) ≡ item_names is + item_names js
item_names-append [] js = sym (zero_plus (item_names js))
  where
    zero_plus : (n : ℕ) → 0 + n ≡ n
    zero_plus n = omega arith
item_names-append (i ∷ is) js =
    let a : length (stores_of_item i ++ stores_of_items (is ++ js)) ≡ length (stores_of_item i) + item_names (is ++ js) = length-append (stores_of_item i) (stores_of_items (is ++ js)) in
    let b : length (stores_of_item i ++ stores_of_items is) ≡ length (stores_of_item i) + item_names is = length-append (stores_of_item i) (stores_of_items is) in
    omega (arith, a, b, item_names-append is js)

values_of-append : (is js : List Item) → values_of (is ++ js) ≡ values_of is + values_of js
values_of-append [] js = omega arith
values_of-append (value c ∷ is) js = omega (arith, values_of-append is js)
values_of-append (link s ∷ is) js = values_of-append is js

entry_links_names : (es : List (Entry ℕ)) → item_names (entry_links es) ≡ length (stores_of_entries es)
entry_links_names [] = refl
entry_links_names (e ∷ es) = ap suc (entry_links_names es)

entry_links_values : (es : List (Entry ℕ)) → values_of (entry_links es) ≡ 0
entry_links_values [] = refl
entry_links_values (e ∷ es) = entry_links_values es

property_links_names : (ps : List Property) → item_names (property_links ps) ≡ length (stores_of_properties ps)
property_links_names [] = refl
property_links_names (p ∷ ps) = ap suc (property_links_names ps)

property_links_values : (ps : List Property) → values_of (property_links ps) ≡ 0
property_links_values [] = refl
property_links_values (p ∷ ps) = property_links_values ps

fallen_names : (c : Content) → item_names (fallen (value c)) ≡ content_names c
fallen_names null = refl
fallen_names (truth b) = refl
fallen_names (int i) = refl
fallen_names (text bytes) = refl
fallen_names (array t) = let e : length (stores_of_entries t.entries ++ []) ≡ length (stores_of_entries t.entries) + 0 = length-append (stores_of_entries t.entries) [] in omega (arith, e)
fallen_names (object h) = refl

fallen_values : (c : Content) → values_of (fallen (value c)) ≤ 1
fallen_values null = omega arith
fallen_values (truth b) = omega arith
fallen_values (int i) = omega arith
fallen_values (text bytes) = omega arith
fallen_values (array t) = omega arith
fallen_values (object h) = omega arith

scope_names : (f : Scope) → length (stores_of_scope f) ≡ length (stores_of_variables f.variables) + (item_names f.temps + item_names f.falling)
scope_names f =
    let a : length (stores_of_scope f) ≡ length (stores_of_variables f.variables) + length (stores_of_items f.temps ++ stores_of_items f.falling) = length-append (stores_of_variables f.variables) (stores_of_items f.temps ++ stores_of_items f.falling) in
    let b : length (stores_of_items f.temps ++ stores_of_items f.falling) ≡ item_names f.temps + item_names f.falling = length-append (stores_of_items f.temps) (stores_of_items f.falling) in
    omega (arith, a, b)

weight_of_scope : (o : Option Scope) → weight_if (λ f. length (stores_of_scope f)) o ≡ length (stores_of_scope (unwrap_or o no_scope))
weight_of_scope None = refl
weight_of_scope (Some f) = refl

weight_of_content : (o : Option Content) → weight_if (λ c. length (stores_of_content c)) o ≡ content_names (unwrap_or o null)
weight_of_content None = refl
weight_of_content (Some c) = refl

weight_of_object : (o : Option Object) → weight_if (λ o. length (stores_of_object o)) o ≡ length (stores_of_object (unwrap_or o no_object))
weight_of_object None = refl
weight_of_object (Some o) = refl

-- a store that isn't there holds null, and then nothing falls
live_or_null : (o : Option Content) → values_of (fallen (value (unwrap_or o null))) ≤ weight_if (λ (c : Content). 1) o
live_or_null None = omega arith
live_or_null (Some c) = fallen_values c

module _ (m : Mem) (b : ℕ) where
  falling_after : (is : List Item) → (scope_of (with_falling m b is) b).falling ≡ is
  falling_after is = ap (λ o. (unwrap_or o no_scope).falling) (numbered-with_same m.blocks b (Some (record (scope_of m b) { falling = is })))

  blocks_after : (is : List Item) → total (λ f. length (stores_of_scope f)) (with_falling m b is).blocks + item_names (scope_of m b).falling ≡ total (λ f. length (stores_of_scope f)) m.blocks + item_names is
  blocks_after is =
      let f = scope_of m b in
      omega (arith, total-with (λ f. length (stores_of_scope f)) m.blocks b (Some (record f { falling = is })), weight_of_scope (numbered m.blocks b), scope_names f, scope_names (record f { falling = is }))

  turns_after : (is : List Item) → turns (with_falling m b is) b + (item_names (scope_of m b).falling + values_of (scope_of m b).falling) ≡ turns m b + (item_names is + values_of is)
  turns_after is = omega (arith, blocks_after is, ap values_of (falling_after is))

abbrev pub TurnEnds : Mem → ℕ → Turn → Type 0
TurnEnds m b (goes_on n) = turns n b < turns m b
TurnEnds m b (stops n answer) = answer ≡ Nothing → (scope_of n b).falling ≡ []

no_destroy : (h : ℕ) → Destroy (record { 0 = h }) ≡ Nothing → ⊥
no_destroy h e = cc

no_frame : (f : ℕ) → FrameOf (record { 0 = f }) ≡ Nothing → ⊥
no_frame f e = cc

module _ (m : Mem) (b : ℕ) (i : Item) (rest : List Item) (falls : (scope_of m b).falling ≡ i ∷ rest) where
  before_names : item_names (scope_of m b).falling ≡ length (stores_of_item i) + item_names rest
  before_names = ap item_names falls ∙ length-append (stores_of_item i) (stores_of_items rest)

  before_values : values_of (scope_of m b).falling ≡ values_of (i ∷ rest)
  before_values = ap values_of falls

  -- what comes in the place of the item names no more than it did
  replaced_less : (is : List Item) → item_names is + values_of is + values_of rest < length (stores_of_item i) + values_of (i ∷ rest) → turns (with_falling m b (is ++ rest)) b < turns m b
  replaced_less is h = omega (arith, h, turns_after m b (is ++ rest), before_names, before_values, item_names-append is rest, values_of-append is rest)

link_ends : (m : Mem) (b s : ℕ) (rest : List Item) → (scope_of m b).falling ≡ link s ∷ rest → (held : Bool) → turns (link_dropped held m b rest s) b < turns m b
link_ends m b s rest falls true = replaced_less m b (link s) rest falls [] (omega arith)
link_ends m b s rest falls false =
    let n : Mem = record m { stores = with_numbered m.stores s None } in
    let c = content_of m s in
    let is = fallen (value c) in
    let names = total-with (λ c. length (stores_of_content c)) m.stores s None in
    let live = total-with (λ (c : Content). 1) m.stores s None in
    omega (arith, turns_after n b (is ++ rest), before_names m b (link s) rest falls, before_values m b (link s) rest falls, item_names-append is rest, values_of-append is rest, names, live, weight_of_content (numbered m.stores s), fallen_names c, live_or_null (numbered m.stores s))

object_gone_ends : (m : Mem) (b h : ℕ) (rest : List Item) → (scope_of m b).falling ≡ value (object h) ∷ rest → turns (with_falling (record m { objects = with_numbered m.objects h None }) b (property_links (object_of m h).properties ++ rest)) b < turns m b
object_gone_ends m b h rest falls =
    let n : Mem = record m { objects = with_numbered m.objects h None } in
    let ps = (object_of m h).properties in
    let is = property_links ps in
    let names = total-with (λ o. length (stores_of_object o)) m.objects h None in
    omega (arith, turns_after n b (is ++ rest), before_names m b (value (object h)) rest falls, before_values m b (value (object h)) rest falls, item_names-append is rest, values_of-append is rest, names, weight_of_object (numbered m.objects h), property_links_names ps, property_links_values ps)

module _ (m : Mem) (b : ℕ) (rest : List Item) where
  object_removed_ends : (h : ℕ) → (scope_of m b).falling ≡ value (object h) ∷ rest → (f : Option ℕ) → TurnEnds m b (object_removed f (object_of m h) m b rest h)
  object_removed_ends h falls (Some f) = λ e. absurd (no_frame f e)
  object_removed_ends h falls None = object_gone_ends m b h rest falls

  object_released_ends : (h : ℕ) → (scope_of m b).falling ≡ value (object h) ∷ rest → (due : Bool) → TurnEnds m b (object_released due (object_of m h) m b rest h)
  object_released_ends h falls true = λ e. absurd (no_destroy h e)
  object_released_ends h falls false = object_removed_ends h falls (object_of m h).frame

  handle_dropped_ends : (h : ℕ) → (scope_of m b).falling ≡ value (object h) ∷ rest → (held : Bool) → TurnEnds m b (handle_dropped held (object_of m h) m b rest h)
  handle_dropped_ends h falls true = replaced_less m b (value (object h)) rest falls [] (omega arith)
  handle_dropped_ends h falls false = object_released_ends h falls ((object_of m h).finishing && not (object_of m h).spent)

  item_ends : (i : Item) → (scope_of m b).falling ≡ i ∷ rest → TurnEnds m b (item_released i m b rest)
  item_ends (link s) falls = link_ends m b s rest falls (is_held (with_falling m b rest) s)
  item_ends (value null) falls = replaced_less m b (value null) rest falls [] (omega arith)
  item_ends (value (truth x)) falls = replaced_less m b (value (truth x)) rest falls [] (omega arith)
  item_ends (value (int i)) falls = replaced_less m b (value (int i)) rest falls [] (omega arith)
  item_ends (value (text bytes)) falls = replaced_less m b (value (text bytes)) rest falls [] (omega arith)
  item_ends (value (array t)) falls = replaced_less m b (value (array t)) rest falls (entry_links t.entries) (omega (arith, entry_links_names t.entries, entry_links_values t.entries))
  item_ends (value (object h)) falls = handle_dropped_ends h falls (is_object_held (with_falling m b rest) h)

pub turn_ends : (m : Mem) (b : ℕ) → TurnEnds m b (turn m b)
turn_ends m b = first (scope_of m b).falling refl
  where
    first : (is : List Item) → (scope_of m b).falling ≡ is → TurnEnds m b (first_released is m b)
    first [] e = λ _. e
    first (i ∷ rest) e = item_ends m b rest i e

abbrev EndsEmpty : ℕ → Mem × Fallen → Type 0
EndsEmpty b p = p.1 ≡ Nothing → (scope_of p.0 b).falling ≡ []

fall_within_ends : (k : ℕ) (m : Mem) (b : ℕ) → turns m b < k → EndsEmpty b (fall_within k m b)
fall_within_ends zero m b h = absurd (omega (arith, h))
fall_within_ends (suc k) m b h = after (turn m b) (turn_ends m b) (λ n less. fall_within_ends k n b (omega (arith, h, less)))
  where
    after : (t : Turn) → TurnEnds m b t → ((n : Mem) → turns n b < turns m b → EndsEmpty b (fall_within k n b)) → EndsEmpty b (fall_after t (λ n. fall_within k n b))
    after (goes_on n) less go_on = go_on n less
    after (stops n answer) done go_on = done

pub fall_ends : (m : Mem) (b : ℕ) → (fall m b).1 ≡ Nothing → (scope_of (fall m b).0 b).falling ≡ []
unfolding fall
fall_ends m b = fall_within_ends (suc (turns m b)) m b (omega arith)

-- any number of turns that is enough comes to the same
enough_turns : (k j : ℕ) (m : Mem) (b : ℕ) → turns m b < k → turns m b < j → fall_within k m b ≡ fall_within j m b
enough_turns zero j m b h i = absurd (omega (arith, h))
enough_turns (suc k) zero m b h i = absurd (omega (arith, i))
enough_turns (suc k) (suc j) m b h i = after (turn m b) (turn_ends m b) (λ n less. enough_turns k j n b (omega (arith, h, less)) (omega (arith, i, less)))
  where
    after : (t : Turn) → TurnEnds m b t → ((n : Mem) → turns n b < turns m b → fall_within k n b ≡ fall_within j n b) → fall_after t (λ n. fall_within k n b) ≡ fall_after t (λ n. fall_within j n b)
    after (goes_on n) less go_on = go_on n less
    after (stops n answer) done go_on = refl

pub fall_unfolds : (m : Mem) (b : ℕ) → fall m b ≡ fall_after (turn m b) (λ n. fall n b)
unfolding fall
fall_unfolds m b = after (turn m b) (turn_ends m b)
  where
    after : (t : Turn) → TurnEnds m b t → fall_after t (λ n. fall_within (turns m b) n b) ≡ fall_after t (λ n. fall_within (suc (turns n b)) n b)
    after (goes_on n) less = enough_turns (turns m b) (suc (turns n b)) n b less (omega arith)
    after (stops n answer) done = refl
