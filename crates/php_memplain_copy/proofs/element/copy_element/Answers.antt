use Rattle.std.proofs.Common.{◌≡◌, sym, ◌∙◌, ap, arith}
use Rattle.php_memplain_cells.specs.Counts.{holders_if}
use Rattle.php_memplain_copy.proofs.ElementLemmas.{slot_live}
use Rattle.php_memplain_copy.proofs.PathLemmas.{begun_now, inside_is}
use Rattle.php_memplain_copy.proofs.element.copy_element.Goals as goal

pub index-requires : goal.index-requires
index-requires c = slot_live c.requires.0 c.args.stores.now c.args.log.now.stores.items c.requires.1.1.1.0.stores_grown c.args.store c.requires.1.1.1.1

pub keep_element-requires : goal.keep_element-requires
keep_element-requires c = slot_live c.requires.0 c.args.stores.now c.args.log.now.stores.items c.requires.1.1.1.0.stores_grown c.args.store c.requires.1.1.1.1

pub index-requires-2 : goal.index-requires-2
index-requires-2 c = slot_live c.requires.0 c.args.stores.now c.args.log.now.stores.items c.requires.1.1.1.0.stores_grown c.args.store c.requires.1.1.1.1

pub returns-in-Ok-None : goal.returns-in-Ok-None
returns-in-Ok-None c = λ before at_hand whole t live.
    inside_is before whole c.args.stores.now c.args.objects.now.items c.args.log.now at_hand t c.args.store live c.args.levels (omega (arith, c.if-levels-eq0.false)) c.index-2.result.now c.index-2.ensures
    (let same : c.index-2.result.now.holders ≡ c.index.result.now.holders = ap holders_if (sym c.index-2.ensures ∙ c.index.ensures) in omega (arith, same, c.if-index-gt1.false)) (rw c.in-Ok-None.field-0-is at c.in-Ok-None.ensures.none)
