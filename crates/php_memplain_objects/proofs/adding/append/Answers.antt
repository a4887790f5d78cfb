use Rattle.std.proofs.Common.{◌+◌, refl, arith, map}
use Rattle.php_memplain_cells.specs.declared.cells.Cells.{Cells}
use Rattle.php_memplain_cells.specs.Seen.{property_seen}
use Rattle.php_memplain_objects.specs.Making.{made_object}
use Rattle.php_memplain_objects.proofs.MakeLemmas.{appended, unchanged}
use Rattle.php_memplain_objects.proofs.adding.append.Goals as goal

pub returns-in-Ok-clause-made : goal.returns-in-Ok-clause-made
returns-in-Ok-clause-made c =
    let s = c.args.cells.now in
    let t : Cells = record s { objects = c.add.new.objects } in
    let x = made_object c.args.class c.args.finishing (map property_seen c.args.properties.items) in
    let made = c.in-Ok.ensures.ok in
    let n = c.len.result + 1 in
    appended s t x made.0 made.1.1.0 made.1.1.1 refl refl refl made.1.0 n
    (omega (arith, c.len.ensures, s.objects.ok.0))
    (omega (arith, c.len.ensures, s.objects.ok.1, s.objects.small))

pub returns-in-Err-clause-no_memory : goal.returns-in-Err-clause-no_memory
returns-in-Err-clause-no_memory c = unchanged c.args.cells.now (record c.args.cells.now { objects = c.add.new.objects }) refl refl refl c.in-Err.ensures.no_memory
