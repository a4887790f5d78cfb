use Rattle.std.proofs.Common.{List, map, sym, ◌∙◌, ap, arith}
use Rattle.std.specs.Prelude.{Some}
use Rattle.php_memdef.specs.Contents as model
use Rattle.php_memplain_cells.specs.declared.load.Property.{Property}
use Rattle.php_memplain_cells.specs.Seen.{property_seen, object_seen}
use Rattle.php_memplain_changes.specs.Named.{has_prop_name}
use Rattle.php_memplain_changes.proofs.NameLemmas.{first_within, property_first, property_out, property_none, property_missing}
use Rattle.php_memplain_changes.proofs.named.take_from_object.Goals as goal

pub remove-property-requires : goal.remove-property-requires
remove-property-requires c = let ok = c.args.object.now.properties.ok in omega (arith, first_within (has_prop_name c.args.name.now) c.args.object.now.properties.items c.in-Some.at c.in-Some.ensures.some)

pub returns-in-Some-clause-seen : goal.returns-in-Some-clause-seen
returns-in-Some-clause-seen c =
    ap (λ (ps : List model.Property). record (object_seen c.args.object.now) { properties = ps })
    (ap (map property_seen) c.remove-property.ensures.by_index.2 ∙ property_out c.args.name.now c.args.object.now.properties.items c.in-Some.at c.in-Some.ensures.some)

pub returns-in-Some-clause-store : goal.returns-in-Some-clause-store
returns-in-Some-clause-store c =
    ap (λ (p : Property). Some p.store) c.remove-property.ensures.value
    ∙ property_first c.args.name.now c.args.object.now.properties.items c.in-Some.at c.remove-property.result c.in-Some.ensures.some

pub returns-in-None-clause-seen : goal.returns-in-None-clause-seen
returns-in-None-clause-seen c =
    ap (λ (ps : List model.Property). record (object_seen c.args.object.now) { properties = ps })
    (sym (property_missing c.args.name.now (map property_seen c.args.object.now.properties.items) (sym (property_none c.args.name.now c.args.object.now.properties.items c.in-None.ensures.none))))

pub returns-in-None-clause-store : goal.returns-in-None-clause-store
returns-in-None-clause-store c = property_none c.args.name.now c.args.object.now.properties.items c.in-None.ensures.none
