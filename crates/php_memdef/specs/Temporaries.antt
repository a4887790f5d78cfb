-- The operations on blocks and on their temporaries.
use Rattle.std.specs.Prelude.{ℕ, zero, suc, ◌+◌, List, [], ◌∷◌, ◌++◌, Option, Some, None}
use Rattle.php_entries.specs.Listing.{no_entries}
use Rattle.php_value.specs.declared.scalar.Scalar.{Scalar}
use Rattle.php_value.specs.declared.scalar.Scalar.TheVariants as scalar
use Rattle.php_memdef.specs.declared.place.Place.{Place}
use Rattle.php_memdef.specs.declared.answer.Read.{Read}
use Rattle.php_memdef.specs.declared.answer.Read.TheVariants.{Found, Absent}
use Rattle.php_memdef.specs.Numbered.{with_numbered}
use Rattle.php_memdef.specs.Contents.{Content, null, truth, int, text, array, object, Item, value, link, Mem, no_scope, content_of, scope_of}
use Rattle.php_memdef.specs.Copies.{copied}
use Rattle.php_memdef.specs.Places.{Spot, with_scope, content_at, find_place}

abbrev pub content_of_scalar : Scalar → Content
content_of_scalar scalar.Null = null
content_of_scalar (scalar.Bool b) = truth b
content_of_scalar (scalar.Int i) = int i
content_of_scalar (scalar.Str bytes) = text bytes

abbrev pub with_temps : Mem → ℕ → List Item → Mem
with_temps m b is = with_scope m b (record (scope_of m b) { temps = is })

abbrev pub with_falling : Mem → ℕ → List Item → Mem
with_falling m b is = with_scope m b (record (scope_of m b) { falling = is })

-- the memory with one more temporary on top
abbrev pub pushed : Mem → ℕ → Item → Mem
pushed m b i = with_temps m b (i ∷ (scope_of m b).temps)

abbrev pub rest_of : List Item → List Item
rest_of [] = []
rest_of (i ∷ is) = is

-- the memory without the top temporary, which falls nowhere
abbrev pub popped : Mem → ℕ → Mem
popped m b = with_temps m b (rest_of (scope_of m b).temps)

abbrev pub top_of : List Item → Item
top_of [] = value null
top_of (i ∷ is) = i

-- the top temporary
abbrev pub top : Mem → ℕ → Item
top m b = top_of (scope_of m b).temps

-- the memory with another item on top
abbrev pub with_top : Mem → ℕ → Item → Mem
with_top m b i = with_temps m b (i ∷ rest_of (scope_of m b).temps)

-- what falls, as a list: a null, a bool, an int or a string is dropped at once
abbrev pub fallen : Item → List Item
fallen (link s) = link s ∷ []
fallen (value null) = []
fallen (value (truth b)) = []
fallen (value (int i)) = []
fallen (value (text bytes)) = []
fallen (value (array t)) = value (array t) ∷ []
fallen (value (object h)) = value (object h) ∷ []

-- an item falls behind all that has fallen in the block
abbrev pub let_fall : Mem → ℕ → Item → Mem
let_fall m b i = with_falling m b ((scope_of m b).falling ++ fallen i)

-- an empty block, with room for so many temporaries
unfoldable pub enter : Mem → ℕ → ℕ → Mem
enter m b room = with_scope m b (record no_scope { room = room })

unfoldable pub leave : Mem → ℕ → Mem
leave m b = record m { blocks = with_numbered m.blocks b None }

unfoldable pub push : Mem → ℕ → Scalar → Mem
push m b v = pushed m b (value (content_of_scalar v))

unfoldable pub push_array : Mem → ℕ → Mem
push_array m b = pushed m b (value (array no_entries))

unfoldable pub push_object : Mem → ℕ → ℕ → Mem
push_object m b h = pushed m b (value (object h))

-- the top temporary moves from one block to another
unfoldable pub pass : Mem → ℕ → ℕ → Mem
pass m from to = pushed (popped m from) to (top m from)

-- the first n items of a list in reverse order, and the rest behind them; `before` are those that were
-- turned already
abbrev pub turned : ℕ → List Item → List Item → List Item
turned zero is before = before ++ is
turned (suc n) [] before = before
turned (suc n) (i ∷ is) before = turned n is (i ∷ before)

-- the n top temporaries come in reverse order
unfoldable pub turn : Mem → ℕ → ℕ → Mem
turn m b n = with_temps m b (turned n (scope_of m b).temps [])

-- room for n more temporaries and falling items
unfoldable pub reserve : Mem → ℕ → ℕ → Mem
reserve m b n = with_scope m b (record (scope_of m b) { room = (scope_of m b).room + n })

unfoldable pub drop_top : Mem → ℕ → Mem
drop_top m b = let_fall (popped m b) b (top m b)

-- the memory with the copy of a content on top
abbrev pub pushed_copy : Mem → ℕ → Content → Mem
pushed_copy m b c = pushed (record m { stores = (copied m c).stores }) b (value (copied m c).made)

abbrev pub copy_of_spot : Option Spot → Mem → ℕ → Mem × Read
copy_of_spot None m b = (m, Absent)
copy_of_spot (Some spot) m b = (pushed_copy m b (content_at m spot), Found)

-- a copy of what the place holds comes on top, where the place isn't missing
unfoldable pub copy : Mem → ℕ → Place → Mem × Read
copy m b from = copy_of_spot (find_place m from) m b

abbrev pub settled : Item → Mem → ℕ → Mem
settled (value c) m b = m
settled (link s) m b =
    let copied = copied m (content_of m s) in
    let_fall (pushed (popped (record m { stores = copied.stores }) b) b (value copied.made)) b (link s)

-- a copy of what its store holds stands in the place of a link on top, and the link falls
unfoldable pub settle : Mem → ℕ → Mem
settle m b = settled (top m b) m b
