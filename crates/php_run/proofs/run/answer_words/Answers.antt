use Rattle.std.proofs.Common.{ℕ, List, [], None, sym, subst, Option}
use Rattle.php_base.proofs.Streams.{nothing_written}
use Rattle.php_base.specs.Streams.{Stream, stream_of}
use Rattle.php_run.specs.Called.{Called, ends, finished}
use Rattle.php_run.specs.Shown.{shown}
use Rattle.php_run.specs.Words.{Request}
use Rattle.php_run.proofs.Comes.{none_held}
use Rattle.php_run.proofs.run.answer_words.Goals as goal

pub returns-in-None-clause-called : goal.returns-in-None-clause-called
returns-in-None-clause-called g c =
    let s = g.O.Sink in
    let out : Stream = stream_of s.written s.faults c.args.out.now in
    let f = g.S.Shelf.faults c.args.shelf.now in
    let files = g.S.Shelf.files c.args.shelf.now in
    let P : Option Request → Type 0 = λ r. (output : List ℕ) × Called r files f f out out (shown c.no_use.result output) in
    subst P (sym c.in-None.ensures) ([], record { held = None; is_held = none_held files; comes_to = ends (finished c.no_use.ensures (nothing_written out)) })
