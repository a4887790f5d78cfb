-- How many variables and temporaries a block has after what the end of a frame does.
use Rattle.std.proofs.Common.{◌≡◌, ℕ, zero, suc, ◌+◌, ◌<◌, Bool, true, false, List, [], ◌∷◌, ◌++◌, length, Option, Some, None, refl, ap, ◌∙◌, arith, length-append}
use Rattle.std.specs.Prelude.{unwrap_or}
use Rattle.php_memdef.specs.Numbered.{with_numbered}
use Rattle.php_memdef.specs.Contents.{null, truth, int, text, array, object, Item, value, link, Variable, Scope, Object, Mem, no_scope, scope_of, object_of}
use Rattle.php_memdef.specs.Places.{with_scope}
use Rattle.php_memdef.specs.Temporaries.{with_falling, rest_of, turned, turn, popped, let_fall, top, fallen, drop_top}
use Rattle.php_memdef.specs.Releases.{Turn, goes_on, stops, link_dropped, object_removed, object_released, handle_dropped, item_released, first_released, turn as turn_of_release, fall_after, fall_within, turns, fall}
use Rattle.php_memdef_laws.proofs.NumberedLemmas.{numbered-with_same}

-- variables and temporaries of a block
abbrev pub size : Mem → ℕ → ℕ
size m b = length (scope_of m b).variables + length (scope_of m b).temps

pub scope-with : (m : Mem) (b : ℕ) (f : Scope) → scope_of (with_scope m b f) b ≡ f
scope-with m b f = ap (λ o. unwrap_or o no_scope) (numbered-with_same m.blocks b (Some f))

abbrev scope_size : Scope → ℕ
scope_size f = length f.variables + length f.temps

size-with : (m : Mem) (b : ℕ) (f : Scope) → size (with_scope m b f) b ≡ scope_size f
size-with m b f = ap scope_size (scope-with m b f)

falling-size : (m : Mem) (b : ℕ) (is : List Item) → size (with_falling m b is) b ≡ size m b
falling-size m b is = size-with m b (record (scope_of m b) { falling = is })

fall-size : (m : Mem) (b : ℕ) (i : Item) → size (let_fall m b i) b ≡ size m b
fall-size m b i = falling-size m b ((scope_of m b).falling ++ fallen i)

-- ---- a variable that goes

pub shed-size : (m : Mem) (b : ℕ) (v : Variable) (vs : List Variable) → (scope_of m b).variables ≡ v ∷ vs
    → suc (size (let_fall (with_scope m b (record (scope_of m b) { variables = vs })) b (link v.store)) b) ≡ size m b
shed-size m b v vs e =
    let n = with_scope m b (record (scope_of m b) { variables = vs }) in
    let a = fall-size n b (link v.store) ∙ size-with m b (record (scope_of m b) { variables = vs }) in
    let c = ap length e in
    omega (arith, a, c)

-- ---- temporaries that are turned and fall

turned-length : (n : ℕ) (is before : List Item) → length (turned n is before) ≡ length is + length before
turned-length zero is before = omega (arith, length-append before is)
turned-length (suc n) [] before = omega arith
turned-length (suc n) (i ∷ is) before = let t = turned-length n is (i ∷ before) in omega (arith, t)

pub turn-size : (m : Mem) (b n : ℕ) → size (turn m b n) b ≡ size m b
unfolding turn
turn-size m b n =
    let t = turned-length n (scope_of m b).temps [] in
    let a = size-with m b (record (scope_of m b) { temps = turned n (scope_of m b).temps [] }) in
    omega (arith, t, a)

pub turn-temps : (m : Mem) (b n : ℕ) → length (scope_of (turn m b n) b).temps ≡ length (scope_of m b).temps
unfolding turn
turn-temps m b n =
    let t = turned-length n (scope_of m b).temps [] in
    let a = ap (λ (f : Scope). length f.temps) (scope-with m b (record (scope_of m b) { temps = turned n (scope_of m b).temps [] })) in
    omega (arith, t, a)

rest-length : (is : List Item) → 0 < length is → suc (length (rest_of is)) ≡ length is
rest-length [] h = absurd (omega (arith, h))
rest-length (i ∷ is) h = refl

pub drop-size : (m : Mem) (b : ℕ) → 0 < length (scope_of m b).temps → suc (size (drop_top m b) b) ≡ size m b
unfolding drop_top
drop-size m b h =
    let a = fall-size (popped m b) b (top m b) ∙ size-with m b (record (scope_of m b) { temps = rest_of (scope_of m b).temps }) in
    let r = rest-length (scope_of m b).temps h in
    omega (arith, a, r)

-- ---- a release

abbrev TurnSize : ℕ → ℕ → Turn → Type 0
TurnSize b n (goes_on m) = size m b ≡ n
TurnSize b n (stops m answer) = size m b ≡ n

link-size : (held : Bool) (m : Mem) (b : ℕ) (rest : List Item) (s : ℕ) → size (link_dropped held m b rest s) b ≡ size m b
link-size true m b rest s = falling-size m b rest
link-size false m b rest s = falling-size (record m { stores = with_numbered m.stores s None }) b _

removed-size : (frame : Option ℕ) (o : Object) (m : Mem) (b : ℕ) (rest : List Item) (h : ℕ) → TurnSize b (size m b) (object_removed frame o m b rest h)
removed-size (Some f) o m b rest h = refl
removed-size None o m b rest h = falling-size (record m { objects = with_numbered m.objects h None }) b _

released-size : (t : Bool) (o : Object) (m : Mem) (b : ℕ) (rest : List Item) (h : ℕ) → TurnSize b (size m b) (object_released t o m b rest h)
released-size true o m b rest h = refl
released-size false o m b rest h = removed-size o.frame o m b rest h

handle-size : (held : Bool) (o : Object) (m : Mem) (b : ℕ) (rest : List Item) (h : ℕ) → TurnSize b (size m b) (handle_dropped held o m b rest h)
handle-size true o m b rest h = falling-size m b rest
handle-size false o m b rest h = released-size _ o m b rest h

item-size : (i : Item) (m : Mem) (b : ℕ) (rest : List Item) → TurnSize b (size m b) (item_released i m b rest)
item-size (link s) m b rest = link-size _ m b rest s
item-size (value null) m b rest = falling-size m b rest
item-size (value (truth x)) m b rest = falling-size m b rest
item-size (value (int i)) m b rest = falling-size m b rest
item-size (value (text bytes)) m b rest = falling-size m b rest
item-size (value (array t)) m b rest = falling-size m b _
item-size (value (object h)) m b rest = handle-size _ (object_of m h) m b rest h

first-size : (is : List Item) (m : Mem) (b : ℕ) → TurnSize b (size m b) (first_released is m b)
first-size [] m b = refl
first-size (i ∷ rest) m b = item-size i m b rest

fall_within-size : (k : ℕ) (m : Mem) (b : ℕ) → size (fall_within k m b).0 b ≡ size m b
fall_within-size zero m b = refl
fall_within-size (suc k) m b = after (turn_of_release m b) (first-size (scope_of m b).falling m b) (λ n. fall_within-size k n b)
  where
    after : (t : Turn) → TurnSize b (size m b) t → ((n : Mem) → size (fall_within k n b).0 b ≡ size n b) → size (fall_after t (λ n. fall_within k n b)).0 b ≡ size m b
    after (stops n answer) e go_on = e
    after (goes_on n) e go_on = go_on n ∙ e

pub release-size : (m : Mem) (b : ℕ) → size (fall m b).0 b ≡ size m b
unfolding fall
release-size m b = fall_within-size (suc (turns m b)) m b
