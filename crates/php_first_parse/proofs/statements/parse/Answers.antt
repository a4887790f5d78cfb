use Rattle.std.proofs.Common.{map}
use Rattle.php_first_tree.specs.Expression.{statement_view}
use Rattle.php_first_tree.specs.declared.Statement as trees
use Rattle.php_first_parse.proofs.Commands.{statement_spells, statement_leads, none_spelled, all_spelled, no_others, one_reading}
use Rattle.php_first_parse.proofs.statements.parse.Goals as goal

pub returns-in_default-2-clause-only : goal.returns-in_default-2-clause-only
returns-in_default-2-clause-only c =
    none_spelled (map statement_view c.loop-first.statements) c.in-Some.first c.args.tokens.now _ _ c.loop-first.invariant.leads c.in-Some.ensures.0 ((rw c.in_default-2.is at c.in_ok-read.ensures) (map statement_view c.loop-first.statements) c.in-Some.first.line)

pub loop-first-preserved : goal.loop-first-preserved
loop-first-preserved c =
    let more = rw c.in-Some-2.is at c.in_ok-read.ensures in
    let new : trees.Statement = record { line = c.in-Some.first.line; action = c.in-Some-2.read.tree } in
    record {
      spelled = statement_spells c.loop-first.statements _ new c.in-Some.first c.args.tokens.now _ _ _ c.loop-first.invariant.spelled c.in-Some.ensures.0 (more.spelled c.in-Some.first.line) c.in_ok-push.ensures.ok;
      leads = statement_leads c.loop-first.statements _ new c.in-Some.first c.args.tokens.now _ _ _ c.loop-first.invariant.leads c.in-Some.ensures.0 (more.spelled c.in-Some.first.line) c.in_ok-push.ensures.ok;
      within = more.within;
    }

pub returns-clause-found : goal.returns-clause-found
returns-clause-found c = all_spelled c.loop-first.statements _ _ c.loop-first.invariant.spelled (rw c.in_default.is at c.token_at.ensures)

pub returns-clause-only : goal.returns-clause-only
returns-clause-only c = no_others (map statement_view c.loop-first.statements) c.args.tokens.now _ c.loop-first.invariant.leads (rw c.in_default.is at c.token_at.ensures)

pub returns-in_err-read-clause-unique : goal.returns-in_err-read-clause-unique
returns-in_err-read-clause-unique c = one_reading c.args.tokens.now

pub returns-in_default-2-clause-unique : goal.returns-in_default-2-clause-unique
returns-in_default-2-clause-unique c = one_reading c.args.tokens.now

pub returns-in_err-push-clause-unique : goal.returns-in_err-push-clause-unique
returns-in_err-push-clause-unique c = one_reading c.args.tokens.now

pub returns-clause-unique : goal.returns-clause-unique
returns-clause-unique c = one_reading c.args.tokens.now
