use Rattle.std.proofs.Common.{ℕ, ◌≡◌, true, rules, ◌+◌, ◌≤◌, sym, ap, ◌∙◌, subst, drop, map}
use Rattle.std.proofs.lemmas.Bool.{lt-ltb}
use Rattle.php_first_tree.specs.Expression.{command_view, statement_view}
use Rattle.php_first_run.specs.Running.{Outcome, step, run, takes_tick, texts_of}
use Rattle.php_base.proofs.Streams.{wrote_broken, wrote_more}
use Rattle.php_first_run.proofs.Written.{run-at, run-on, run-ticks, followed_by-output, followed_by-ticks}
use Rattle.php_first_run.proofs.walking.walk.Goals as goal

pub loop-statement-preserved : goal.loop-statement-preserved
loop-statement-preserved g c =
    let so = c.loop-statement.invariant.so_far in
    let texts = texts_of c.args.tokens.now in
    let takes : takes_tick (command_view c.statement-item.result.action) ≡ true = search rules in
    let next = run-on texts c.args.allowance c.loop-statement.ticks c.loop-statement.values c.execute.new.values c.args.statements.now c.loop-statement.statement-index c.statement-item.result
    c.loop-statement-test.true c.statement-item.is takes (lt-ltb _ _ c.if-ticks-allowance.false) c.in-Done.ensures.0 c.in-Done.ensures.1 in
    record {
      so_far = record {
        output = wrote_more _ _ (step texts c.loop-statement.values (command_view c.statement-item.result.action)).bytes _ _ _ _ so.output (ap (λ (o : Outcome). o.output) next) c.in-Done.ensures.2;
        ending = sym (ap (λ (o : Outcome). o.ending) next) ∙ so.ending;
        ticks = sym (ap (λ (o : Outcome). o.ticks) next) ∙ so.ticks;
      };
    }

pub returns-in-SinkFault : goal.returns-in-SinkFault
returns-in-SinkFault g c =
    let so = c.loop-statement.invariant.so_far in
    let texts = texts_of c.args.tokens.now in
    let takes : takes_tick (command_view c.statement-item.result.action) ≡ true = search rules in
    let effect = step texts c.loop-statement.values (command_view c.statement-item.result.action) in
    let later = run texts c.args.allowance (c.loop-statement.ticks + 1) effect.values (map statement_view (drop (c.loop-statement.statement-index + 1) c.args.statements.now)) in
    let next = run-at texts c.args.allowance c.loop-statement.ticks c.loop-statement.values c.args.statements.now c.loop-statement.statement-index c.statement-item.result
    c.loop-statement-test.true c.statement-item.is takes (lt-ltb _ _ c.if-ticks-allowance.false) in
    let more = followed_by-output effect c.statement-item.result.line (c.loop-statement.ticks + 1) later in
    let P : ℕ → Type 0 = λ n. c.loop-statement.ticks + 1 ≤ n in
    record {
      ticks_taken = subst P (sym (ap (λ (o : Outcome). o.ticks) next) ∙ so.ticks) (followed_by-ticks effect c.statement-item.result.line (c.loop-statement.ticks + 1) later
          (run-ticks texts c.args.allowance (c.loop-statement.ticks + 1) effect.values (map statement_view (drop (c.loop-statement.statement-index + 1) c.args.statements.now))));
      output = wrote_broken _ _ effect.bytes more.0 _ _ _ so.output (ap (λ (o : Outcome). o.output) next ∙ more.1) c.in-SinkFault.ensures;
    }
