use Rattle.std.proofs.Common.{◌≡◌, List, length, subst, arith}
use Rattle.php_memdef.specs.declared.place.Step.{Step}
use Rattle.php_memdef.specs.Writes.{removed_at}
use Rattle.php_memplain_cells.specs.Memory.{memory_seen}
use Rattle.php_memplain_changes.specs.Taken.{Takes}
use Rattle.php_memplain_changes.proofs.RemoveLemmas.{empty_path}
use Rattle.php_memplain_changes.proofs.removing.take_at.Goals as goal

pub returns-then-len-eq0-clause-ok : goal.returns-then-len-eq0-clause-ok
returns-then-len-eq0-clause-ok c =
    let none : length c.args.at.now.path ≡ 0 = omega (arith, c.if-len-eq0.true, c.len.ensures) in
    subst (λ (q : List Step). Takes c.args.cells.now c.take_base.new.cells c.take_base.result (λ b. removed_at (memory_seen c.args.cells.now) b c.args.at.now.base q)) (empty_path c.args.at.now.path none) c.take_base.ensures
