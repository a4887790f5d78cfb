use Rattle.std.proofs.Common.{◌≡◌, refl, sym, ◌∙◌, get_or}
use Rattle.std.specs.Prelude.{Some, None}
use Rattle.php_value.specs.Form.{kind_of}
use Rattle.php_value.specs.Reading.{place_after}
use Rattle.php_value.proofs.Reading.{found_at, reading-step, reading-stop}
use Rattle.php_value.proofs.form.number_len.Goals as goal
use Rattle.php_value.proofs.form.number_len.Goals.{then-is_number, else-is_number}

pub returns-in-None-clause-longest : goal.returns-in-None-clause-longest
returns-in-None-clause-longest c =
    let stops : place_after c.loop-i.place (kind_of (get_or c.args.bytes.now c.loop-i.i 0)) ≡ None = cc in
    sym (reading-stop c.args.bytes.now c.loop-i.i c.loop-i.place c.loop-i.found c.loop-i.invariant c.loop-i-test.true stops)

pub loop-i-preserved : goal.loop-i-preserved
loop-i-preserved c =
    let goes : place_after c.loop-i.place (kind_of (get_or c.args.bytes.now c.loop-i.i 0)) ≡ Some c.in-Some.next = cc in
    let found : c.if-is_number.found ≡ found_at c.loop-i.found c.loop-i.i c.in-Some.next =
    elim c.if-is_number.branch [
      | then-is_number w ↦ w.found-is ∙ sym (rw (sym c.is_number.ensures ∙ w.if-is_number.true) refl)
      | else-is_number w ↦ w.found-is ∙ sym (rw (sym c.is_number.ensures ∙ w.if-is_number.false) refl)
    ] in
    rw found (reading-step c.args.bytes.now c.loop-i.i c.loop-i.place c.in-Some.next c.loop-i.found c.loop-i.invariant c.loop-i-test.true goes)
