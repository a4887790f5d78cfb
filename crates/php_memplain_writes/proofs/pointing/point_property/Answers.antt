use Rattle.std.proofs.Common.{List, map, sym, ◌∙◌, ap, arith}
use Rattle.std.specs.Prelude.{Some}
use Rattle.php_memdef.specs.Contents as model
use Rattle.php_memdef.specs.Writes.{with_property}
use Rattle.php_memplain_cells.specs.declared.load.Property.{Property}
use Rattle.php_memplain_cells.specs.Seen.{property_seen, object_seen}
use Rattle.php_memplain_writes.specs.Pointing.{has_prop_name}
use Rattle.php_memplain_writes.proofs.BindLemmas.{property_new}
use Rattle.php_memplain_writes.proofs.PointLemmas.{first_within, property_first, property_set, property_none}
use Rattle.php_memplain_writes.proofs.pointing.point_property.Goals as goal

pub index_mut-requires : goal.index_mut-requires
index_mut-requires c = let ok = c.args.object.now.properties.ok in omega (arith, first_within (has_prop_name c.args.name.now) c.args.object.now.properties.items c.in-Some.at c.in-Some.ensures.some)

pub returns-in-Some-clause-before : goal.returns-in-Some-clause-before
returns-in-Some-clause-before c =
    ap Some (c.replace.ensures.value ∙ ap (λ (v : Property). v.store) c.index_mut.ensures.value)
    ∙ property_first c.args.name.now c.args.object.now.properties.items c.in-Some.at c.index_mut.result.now c.in-Some.ensures.some

pub returns-in-Some-clause-ok : goal.returns-in-Some-clause-ok
returns-in-Some-clause-ok c =
    ap (λ (vs : List model.Property). record (object_seen c.args.object.now) { properties = vs })
    (property_set c.args.name.now c.args.object.now.properties.items c.in-Some.at c.index_mut.result.now _ c.in-Some.ensures.some (ap (λ (v : Property). v.name) c.index_mut.ensures.value)
    ∙ ap (λ s. with_property c.args.name.now s (map property_seen c.args.object.now.properties.items)) c.replace.ensures.after)

pub returns-in-Ok-clause-before : goal.returns-in-Ok-clause-before
returns-in-Ok-clause-before c = property_none c.args.name.now c.args.object.now.properties.items c.in-None.ensures.none

pub returns-in-Ok-clause-ok : goal.returns-in-Ok-clause-ok
returns-in-Ok-clause-ok c =
    c.in-Ok.ensures.ok
    ∙ ap (λ (vs : List model.Property). record (object_seen c.args.object.now) { properties = vs })
    (sym (property_new c.args.name.now c.args.store (map property_seen c.args.object.now.properties.items) (sym (property_none c.args.name.now c.args.object.now.properties.items c.in-None.ensures.none))))
