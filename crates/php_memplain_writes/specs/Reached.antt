-- Where a write leads, and the memory with all that was missing on its way.
use Rattle.std.specs.Prelude.{◌≡◌, ℕ, List, [], ◌∷◌, ◌++◌, Some}
use Rattle.php_memdef.specs.declared.place.Base.{Base}
use Rattle.php_memdef.specs.declared.place.Base.TheVariants.{Var, Property as OfObject, Static, Temp}
use Rattle.php_memdef.specs.declared.place.Step.{Step}
use Rattle.php_memdef.specs.Numbered.{with_numbered}
use Rattle.php_memdef.specs.Contents.{Mem, scope_of, object_of}
use Rattle.php_memdef.specs.Places.{Spot, with_scope, with_object, reached, walk}
use Rattle.php_memdef.specs.Alike.{IsRenamed}
use Rattle.php_memdef_laws.proofs.Alike.Places.{renamed_spot}

abbrev pub IsNoTemp : Base → Type 0
IsNoTemp (Var b n) = Unit {0}
IsNoTemp (OfObject h p) = Unit {0}
IsNoTemp (Static i) = Unit {0}
IsNoTemp (Temp b n) = ⊥

-- a base that was missing points to a store
abbrev pub with_base : Base → Mem → ℕ → Mem
with_base (Var b n) m s = let f = scope_of m b.0 in with_scope m b.0 (record f { variables = f.variables ++ record { name = n.0; store = s } ∷ [] })
with_base (OfObject h p) m s = let o = object_of m h.0 in with_object m h.0 (record o { properties = o.properties ++ record { name = p; store = s } ∷ [] })
with_base (Static i) m s = record m { statics = with_numbered m.statics i.0 (Some s) }
with_base (Temp b n) m s = m

-- the model's walk leads to the spot, in a memory that differs in the numbers of stores alone
pub record Reaches (m : Mem) (base : Base) (path : List Step) (n : Mem) (spot : Spot) : Type 0 where
  pub walked : Mem
  pub at : Spot
  pub walks : walk m base path ≡ reached walked at
  pub to : ℕ → ℕ
  pub back : ℕ → ℕ
  pub renamed : IsRenamed to back walked n
  pub same_spot : spot ≡ renamed_spot to at
