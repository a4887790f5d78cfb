use Rattle.std.proofs.Common.{◌≡◌, ℕ, List, [], take, subst, refl, sym, ap, ◌∙◌, arith}
use Rattle.php_base.specs.Streams.{Stream, stream_of, AllWritten, BrokenOff}
use Rattle.php_base.specs.Written.{GrewBy, GrewByPart}
use Rattle.php_base.proofs.Streams.{part_broken}
use Rattle.php_run.specs.Answer.{Answer, counted, write_fault}
use Rattle.php_run.specs.Called.{CanEnd, finished, out_failed}
use Rattle.php_run.specs.Shown.{shown}
use Rattle.php_run.specs.Texts.{counted_text}
use Rattle.php_run.specs.declared.report.Kind.{Kind}
use Rattle.php_run.specs.declared.report.Kind.TheVariants as kind
use Rattle.php_run.proofs.Counts.{no_class_text}
use Rattle.php_run.proofs.check.put_count.Goals as goal

-- the answer where a run stopped, by its error text
abbrev with : Kind → List ℕ → List ℕ → Answer
with k output error = record { kind = k; ticks = 0; output = output; error = error }

pub returns-in-Ok : goal.returns-in-Ok
returns-in-Ok g c =
    let s = g.O.Sink in
    let old : Stream = stream_of s.written s.faults c.args.out.now in
    let new : Stream = stream_of s.written s.faults c.put_number.new.sink in
    let P : List ℕ → Type 0 = λ l. GrewBy old.written new.written l in
    let text : List ℕ = counted_text c.args.functions 0 in
    let written : AllWritten text old new = record { grew = subst P (no_class_text c.args.functions) c.in-Ok.ensures.ok; no_fault = c.in-Ok.ensures.no_fault } in
    (text, finished (c.stopped.ensures text ∙ ap (with kind.Done text) c.fixed.ensures) written)

pub returns-in-Err : goal.returns-in-Err
returns-in-Err g c =
    let s = g.O.Sink in
    let old : Stream = stream_of s.written s.faults c.args.out.now in
    let new : Stream = stream_of s.written s.faults c.put_number.new.sink in
    let P : List ℕ → Type 0 = λ l. GrewByPart old.written new.written l in
    let text : List ℕ = counted_text c.args.functions 0 in
    let broken : BrokenOff text old new = part_broken text old new c.in-Err.ensures.fault (subst P (no_class_text c.args.functions) c.in-Err.ensures.part) in
    let front : List ℕ = broken.front in
    let no_ticks : c.stopped-in-Err.result.ticks ≡ 0 = ap (λ (x : Answer). x.ticks) (c.stopped-in-Err.ensures front) in (
      front,
      out_failed (counted c.args.functions 0) refl broken.fault (record { front = broken.is_front; ticks_taken = omega (arith, no_ticks) }) broken.grew
          (c.stopped-in-Err.ensures front ∙ ap (with kind.SinkFault front) c.fixed-in-Err.ensures ∙ ap (λ n. write_fault n front) (sym no_ticks)),
    )
