use Rattle.std.proofs.Common.{◌≡◌, ◌+◌, List, [], Some, None, refl, sym, ap, ◌∙◌, subst, Option, Err, length, arith, true, false}
use Rattle.php_base.specs.Files.{File}
use Rattle.php_base.proofs.Streams.{nothing_written}
use Rattle.php_run.specs.declared.limits.TheConstants.{MOST_BYTES}
use Rattle.php_run.specs.Called.{IsHeld, ends, finished, shelf_failed, starved}
use Rattle.php_run.specs.Shown.{wanted}
use Rattle.php_run.specs.Words.{Request}
use Rattle.php_run.proofs.Comes.{held_bytes, some_held}
use Rattle.php_run.proofs.run.answer_request.Goals as goal

pub returns-in-Ok-clause-called : goal.returns-in-Ok-clause-called
returns-in-Ok-clause-called g c =
    let request : Request = wanted c.args.request.now in
    let held = held_bytes (g.S.Shelf.files c.args.shelf.now) request c.in-Ok.bytes.items (MOST_BYTES + 1) (omega (arith, c.in-Ok.ensures.within, ap length c.as_slice.ensures.value)) c.in-Ok.ensures.told (λ t. let h : false ≡ true = c.in-Ok.ensures.not_there t in cc) in
    let end = c.answer_bytes.ensures held.0 (c.as_slice.ensures.value ∙ held.1) in
    (end.0, record { held = Some held.0; is_held = held.2; comes_to = ends end.1 })

pub returns-in-Err-Missing-clause-called : goal.returns-in-Err-Missing-clause-called
returns-in-Err-Missing-clause-called g c =
    let request : Request = wanted c.args.request.now in
    let told = c.fetch.ensures.missing (c.in-Err-Missing.is ∙ ap Err c.in-Err-Missing.field-0-is) in
    let P : Option (List File) → Type 0 = λ files. IsHeld files (Some request) None in
    ([], record { held = None; is_held = subst P (sym told.1) (sym told.2); comes_to = ends (finished c.file_missing.ensures (nothing_written _)) })

pub returns-in-Err-Failed-clause-called : goal.returns-in-Err-Failed-clause-called
returns-in-Err-Failed-clause-called g c =
    let request : Request = wanted c.args.request.now in
    let held = some_held (g.S.Shelf.files c.args.shelf.now) (Some request) in
    ([], record { held = held.0; is_held = held.1; comes_to = shelf_failed request refl (c.fetch.ensures.failed (c.in-Err-Failed.is ∙ ap Err c.in-Err-Failed.field-0-is)) c.shelf_failed.ensures refl })

pub returns-in-Err-NoMemory-clause-called : goal.returns-in-Err-NoMemory-clause-called
returns-in-Err-NoMemory-clause-called g c =
    let request : Request = wanted c.args.request.now in
    let held = some_held (g.S.Shelf.files c.args.shelf.now) (Some request) in
    ([], record { held = held.0; is_held = held.1; comes_to = ends (starved c.starved.ensures refl) })
