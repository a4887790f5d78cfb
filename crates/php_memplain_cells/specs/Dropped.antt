-- What comes of an object that loses a holder.
use Rattle.std.specs.Prelude.{◌≡◌, ℕ, ◌-◌, ◌<◌, Bool, true, false, ◌&&◌, not, List, map, Option, Some, None, Box}
use Rattle.std.specs.declared.alloc.Global.{Global}
use Rattle.php_memdef.specs.Numbered.{numbered, with_numbered}
use Rattle.php_memdef.specs.Contents as model
use Rattle.php_memplain_cells.specs.declared.objects.Object.{Object}
use Rattle.php_memplain_cells.specs.declared.objects.Lost.{Lost}
use Rattle.php_memplain_cells.specs.declared.objects.Lost.TheVariants as lost
use Rattle.php_memplain_cells.specs.declared.objects.Dropped.{Dropped}
use Rattle.php_memplain_cells.specs.declared.objects.Dropped.TheVariants.{Held, Due, Framed, Gone}
use Rattle.php_memplain_cells.specs.Seen.{property_seen, objects_seen}
use Rattle.php_memplain_cells.specs.Counts.{count_of_object, AreFewerHandles, AreSameHandles}

abbrev pub LostIs : Lost → Object → Object → Type 0
LostIs lost.Held o p = (1 < o.holders) × (p ≡ record o { holders = o.holders - 1 })
LostIs lost.Due o p = (o.holders ≡ 1) × ((o.finishing && not o.spent ≡ true) × (p ≡ record o { spent = true }))
LostIs (lost.Framed f) o p = (o.holders ≡ 1) × ((o.finishing && not o.spent ≡ false) × ((o.frame ≡ Some f) × (p ≡ record o { frame = None })))
LostIs lost.Gone o p = (o.holders ≡ 1) × ((o.finishing && not o.spent ≡ false) × ((o.frame ≡ None) × (p ≡ o)))

-- the object of a number, and what stands under its number afterwards
pub record Turns (old new : List (Option (Box Object Global))) (h : ℕ) (o : model.Object) (after : Option model.Object) : Type 0 where
  pub there : numbered (objects_seen old) h ≡ Some o
  pub after_it : objects_seen new ≡ with_numbered (objects_seen old) h after

abbrev pub is_due : model.Object → Bool
is_due o = o.finishing && not o.spent

abbrev pub DroppedIs : Dropped → List (Option (Box Object Global)) → List (Option (Box Object Global)) → ℕ → Type 0
DroppedIs Held old new h = (1 < count_of_object old h) × ((objects_seen new ≡ objects_seen old) × AreFewerHandles old new h)
DroppedIs Due old new h = (count_of_object old h ≡ 1) × (AreSameHandles old new × ((o : model.Object) × (Turns old new h o (Some (record o { spent = true })) × (is_due o ≡ true))))
DroppedIs (Framed f) old new h = (count_of_object old h ≡ 1) × (AreSameHandles old new × ((o : model.Object) × (Turns old new h o (Some (record o { frame = None })) × ((is_due o ≡ false) × (o.frame ≡ Some f)))))
DroppedIs (Gone ps link) old new h = (count_of_object old h ≡ 1) × (AreFewerHandles old new h × ((o : model.Object) × (Turns old new h o None × ((is_due o ≡ false) × ((o.frame ≡ None) × (o.properties ≡ map property_seen ps.items))))))
