use Rattle.std.proofs.Common.{refl, sym, ◌∙◌, map, arith}
use Rattle.php_memdef.specs.Places.{prop_name_eq, property_store}
use Rattle.php_memplain_cells.specs.declared.load.Property.{Property}
use Rattle.php_memplain_cells.specs.Seen.{property_seen}
use Rattle.php_memplain_places.proofs.SearchLemmas.{first_found, first_later, first_none}
use Rattle.php_memplain_places.proofs.places.property_store.Goals as goal

pub returns-then-is_one_name : goal.returns-then-is_one_name
returns-then-is_one_name c = first_found (λ ys. property_store (map property_seen ys) c.args.name.now) (λ (p : Property). prop_name_eq c.args.name.now p.name) (λ (p : Property). p.store) (λ x xs. refl) c.args.properties.now c.loop-property.property-index _ c.loop-property.invariant c.property-item.result _ c.loop-property-test.true c.property-item.is (sym c.is_one_name.ensures ∙ c.if-is_one_name.true)

pub loop-property-preserved : goal.loop-property-preserved
loop-property-preserved c = first_later (λ ys. property_store (map property_seen ys) c.args.name.now) (λ (p : Property). prop_name_eq c.args.name.now p.name) (λ (p : Property). p.store) (λ x xs. refl) c.args.properties.now c.loop-property.property-index _ c.loop-property.invariant c.property-item.result _ c.loop-property-test.true c.property-item.is (sym c.is_one_name.ensures ∙ c.if-is_one_name.false)

pub returns : goal.returns
returns c = first_none (λ ys. property_store (map property_seen ys) c.args.name.now) refl c.args.properties.now c.loop-property.property-index _ c.loop-property.invariant (omega arith)
