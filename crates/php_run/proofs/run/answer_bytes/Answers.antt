use Rattle.std.proofs.Common.{◌≡◌, ◌≤◌, ℕ, List, [], length, Some, subst, arith}
use Rattle.php_base.specs.Streams.{Stream, stream_of}
use Rattle.php_base.proofs.Streams.{nothing_written}
use Rattle.php_ast.specs.declaration.View.{script_view}
use Rattle.php_front.specs.Read.{IsScript}
use Rattle.php_run.specs.declared.limits.TheConstants.{MOST_BYTES}
use Rattle.php_run.specs.Answer.{Answer}
use Rattle.php_run.specs.Called.{CanEnd, finished}
use Rattle.php_run.specs.Owed.{IsOwed, IsOwedTo, legal, read, too_many}
use Rattle.php_run.specs.Shown.{shown, task_wanted, wanted}
use Rattle.php_run.proofs.Comes.{ends_as, ends_unread, taken_part, taken_whole}
use Rattle.php_run.proofs.run.answer_bytes.Goals as goal

pub returns-then-bytes-gt-MOST_BYTES : goal.returns-then-bytes-gt-MOST_BYTES
returns-then-bytes-gt-MOST_BYTES g c = λ whole taken.
    ([], finished (too_many (taken_part c.args.bytes.now whole MOST_BYTES taken (omega arith)) c.file_too_long.ensures) (nothing_written _))

pub returns-in-Ok : goal.returns-in-Ok
returns-in-Ok g c = λ whole taken.
    let short : length c.args.bytes.now ≤ MOST_BYTES = omega arith in
    let same : c.args.bytes.now ≡ whole = taken_whole c.args.bytes.now whole MOST_BYTES taken short in
    let Q : List ℕ → Type 0 = λ l. length l ≤ MOST_BYTES in
    let s = g.O.Sink in
    let old : Stream = stream_of s.written s.faults c.args.out.now in
    let new : Stream = stream_of s.written s.faults c.answer_read-answer.new.out in
    let found = c.in-Ok.read.tokens in
    let script = script_view c.in-Ok.read.script in
    let R : List ℕ → Type 0 = λ l. IsScript l found script in
    let end = c.answer_read-answer.ensures in
    let Due : Answer → Type 0 = IsOwedTo (task_wanted c.args.request.now.task) found script in
    let Owed : Answer → Type 0 = IsOwed (Some (wanted c.args.request.now)) (Some whole) in (
      end.0,
      ends_as Due Owed old new (shown c.answer_read-answer.result end.0)
          (λ a due. read (subst Q same short) (legal found script (subst R same c.in-Ok.ensures.read) due))
          end.1,
    )

pub returns-in-Err : goal.returns-in-Err
returns-in-Err g c = λ whole taken.
    let short : length c.args.bytes.now ≤ MOST_BYTES = omega arith in
    let same : c.args.bytes.now ≡ whole = taken_whole c.args.bytes.now whole MOST_BYTES taken short in
    let s = g.O.Sink in
    let out : Stream = stream_of s.written s.faults c.args.out.now in
    let P : List ℕ → Type 0 = λ file. CanEnd (IsOwed (Some (wanted c.args.request.now)) (Some file)) out out (shown c.unread.result []) in (
      [],
      subst P same
          (ends_unread (wanted c.args.request.now) c.args.bytes.now c.in-Err.cause out (shown c.unread.result [])
          short c.in-Err.ensures.refused (nothing_written out) c.unread.ensures),
    )
