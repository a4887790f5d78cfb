-- What a contract sees of stores, blocks and objects: the parts of a memory of the model.
use Rattle.std.specs.Prelude.{ℕ, nat_lt, if◌then◌else◌, List, [], ◌∷◌, ◌++◌, map, reverse, drop, Option, Some, None, option_map, Box}
use Rattle.std.specs.declared.alloc.Global.{Global}
use Rattle.slab.specs.Slab.{Slab}
use Rattle.php_entries.specs.Listing.{Entry}
use Rattle.php_memdef.specs.Numbered.{Numbered}
use Rattle.php_memdef.specs.Contents as model
use Rattle.php_memdef.specs.Releases.{entry_links, property_links}
use Rattle.php_memplain_cells.specs.declared.content.Content.{Content}
use Rattle.php_memplain_cells.specs.declared.content.Content.TheVariants.{Null, Bool as Truth, Int, Str, Array, Object}
use Rattle.php_memplain_cells.specs.declared.content.Item.{Item}
use Rattle.php_memplain_cells.specs.declared.content.Item.TheVariants.{Value, Link}
use Rattle.php_memplain_cells.specs.declared.load.Property.{Property}
use Rattle.php_memplain_cells.specs.declared.load.Elements.{Elements}
use Rattle.php_memplain_cells.specs.declared.load.Load.{Load}
use Rattle.php_memplain_cells.specs.declared.load.Load.TheVariants.{Whole, Elements as Begun, Properties}
use Rattle.php_memplain_cells.specs.declared.stores.Store.{Store}
use Rattle.php_memplain_cells.specs.declared.objects.Object.{Object as Kept}
use Rattle.php_memplain_cells.specs.declared.block.Variable.{Variable}
use Rattle.php_memplain_cells.specs.declared.block.Block.{Block}

abbrev pub content_seen : Content → model.Content
content_seen Null = model.null
content_seen (Truth b) = model.truth b
content_seen (Int i) = model.int i
content_seen (Str t) = model.text t
content_seen (Array t link) = model.array t
content_seen (Object h) = model.object h

abbrev pub item_seen : Item → model.Item
item_seen (Value c) = model.value (content_seen c)
item_seen (Link s) = model.link s

abbrev pub variable_seen : Variable → model.Variable
variable_seen v = record { name = v.name; store = v.store }

abbrev pub property_seen : Property → model.Property
property_seen p = record { name = p.name; store = p.store }

abbrev pub store_seen : Store → model.Content
store_seen s = content_seen s.content

abbrev pub stores_seen : Slab Store → Numbered model.Content
stores_seen s = map (option_map store_seen) s.slots

-- the entries behind the one with a serial
abbrev pub later : ℕ → List (Entry ℕ) → List (Entry ℕ)
later passed [] = []
later passed (e ∷ es) = if nat_lt passed e.serial then e ∷ es else later passed es

-- what is still to be released, as items

abbrev pub elements_left : Elements → List model.Item
elements_left e = entry_links (later e.passed e.entries.entries)

abbrev pub properties_left : List Property → ℕ → List model.Item
properties_left ps at = property_links (map property_seen (drop at ps))

abbrev pub load_items : Load → List model.Item
load_items (Whole t) = model.value (model.array t) ∷ []
load_items (Begun e) = elements_left e
load_items (Properties ps at) = properties_left ps.items at

abbrev pub loads_items : List Load → List model.Item
loads_items [] = []
loads_items (l ∷ ls) = load_items l ++ loads_items ls

abbrev pub handle_items : Option ℕ → List model.Item
handle_items None = []
handle_items (Some h) = model.value (model.object h) ∷ []

abbrev pub block_falling : Block → List model.Item
block_falling f = handle_items f.handle ++ (loads_items f.loads ++ map item_seen f.waiting.items)

abbrev pub scope_seen : Block → model.Scope
scope_seen f = record {
  variables = map variable_seen f.variables.items;
  temps = map item_seen (reverse f.temps.items);
  room = f.room;
  falling = block_falling f;
}

abbrev pub object_seen : Kept → model.Object
object_seen o = record { class = o.class; properties = map property_seen o.properties.items; finishing = o.finishing; spent = o.spent; frame = o.frame }

abbrev pub box_seen : Box Kept Global → model.Object
box_seen o = object_seen o.value

-- the first object has the number 1
abbrev pub objects_seen : List (Option (Box Kept Global)) → Numbered model.Object
objects_seen os = None ∷ map (option_map box_seen) os
