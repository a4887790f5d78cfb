use Rattle.std.proofs.Common.{◌≡◌, length, sym, ◌∙◌, arith}
use Rattle.std.specs.Prelude.{vec_len}
use Rattle.php_memdef_laws.proofs.Alike.Memories.{Alike-sym}
use Rattle.php_memdef_laws.proofs.Alike.Views.{temps_count-alike, IsBlock-alike}
use Rattle.php_memplain_cells.specs.Memory.{memory_seen}
use Rattle.php_memplain_blocks.proofs.MoveLemmas.{block_live, temps_length}
use Rattle.php_memplain.proofs.memory.MemPlain.temps.Goals as goal

pub index-requires : goal.index-requires
index-requires c =
    let m = c.requires.0 in
    let n = memory_seen c.args.self.now.cells in
    let a = Alike-sym n m c.requires.1.alike in
    block_live c.args.self.now.cells c.args.block.0 (IsBlock-alike a.to a.back m n a.renamed c.args.block.0 c.requires.2)

pub returns : goal.returns
returns c = λ m means.
    let n = memory_seen c.args.self.now.cells in
    let a = means.alike in
    let count : vec_len c.index.result.now.temps ≡ length c.index.result.now.temps.items = (let ok = c.index.result.now.temps.ok in omega arith) in
    c.len.ensures ∙ count ∙ sym (temps_count-alike a.to a.back n m a.renamed c.args.block.0 ∙ temps_length c.args.self.now.cells c.args.block.0 c.index.result.now c.index.ensures)
