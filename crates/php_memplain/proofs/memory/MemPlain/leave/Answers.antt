use Rattle.std.proofs.Common.{map, refl, ◌∙◌, ap}
use Rattle.std.specs.Prelude.{None, option_map}
use Rattle.php_memdef.specs.Temporaries.{leave}
use Rattle.php_memdef.specs.Operations as op
use Rattle.php_memplain_cells.specs.Seen.{scope_seen}
use Rattle.php_memplain_cells.specs.Memory.{memory_seen}
use Rattle.php_memplain_cells.proofs.SlotLemmas.{set_seen}
use Rattle.php_memplain_blocks.proofs.MoveLemmas.{block_live, left_counted}
use Rattle.php_memplain.proofs.MeansLemmas.{able, does}
use Rattle.php_memplain.proofs.memory.MemPlain.leave.Goals as goal

pub remove-left-requires : goal.remove-left-requires
remove-left-requires c = block_live c.args.self.now.cells c.args.block.0 (able c.args.self.now (op.leave c.args.block.0) c.requires).block

pub returns-clause-effect : goal.returns-clause-effect
unfolding leave
returns-clause-effect c =
    let s = c.args.self.now in
    let b = c.args.block.0 in
    let t = record s.cells { blocks = c.remove-left.new.self } in
    let seen = ap (λ xs. record (memory_seen s.cells) { blocks = map (option_map scope_seen) xs }) c.remove-left.ensures.slots
    ∙ ap (λ xs. record (memory_seen s.cells) { blocks = xs }) (set_seen scope_seen s.cells.blocks.slots b c.remove-left.result None c.remove-left.ensures.value) in
    does s (record { cells = t }) (op.leave b) (able s (op.leave b) c.requires)
    (left_counted s.cells b t c.requires.1.counted (able s (op.leave b) c.requires) refl refl seen)
    seen
