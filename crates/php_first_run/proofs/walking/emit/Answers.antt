use Rattle.std.proofs.Common.{refl}
use Rattle.php_base.specs.Streams.{stream_of}
use Rattle.php_base.proofs.Streams.{part_broken}
use Rattle.php_first_run.proofs.walking.emit.Goals as goal

pub returns-in-Err : goal.returns-in-Err
returns-in-Err g c =
    let s = g.O.Sink in (
      c.args.bytes.now,
      refl,
      part_broken c.args.bytes.now
          (stream_of s.written s.faults c.args.out.now)
          (stream_of s.written s.faults c.put_all.new.sink)
          c.in-Err.ensures.fault c.in-Err.ensures.part,
    )
