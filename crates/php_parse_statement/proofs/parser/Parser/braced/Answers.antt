use Rattle.std.proofs.Common.{refl, arith}
use Rattle.std.proofs.lemmas.Result.{err_from_is_err_and}
use Rattle.php_grammar.specs.statement.Forms.{due_in_list}
use Rattle.php_parse_simple.proofs.Moves.{leads, leads_halts}
use Rattle.php_parse_statement.proofs.Lists.{list_unended, brace_closes, brace_sinks}
use Rattle.php_parse_statement.proofs.parser.Parser.braced.Goals as goal

pub returns-in_err-list : goal.returns-in_err-list
returns-in_err-list g c =
    let q = err_from_is_err_and c.from_residual.result c.from_residual.ensures.1 in
    rw (q.1, q.2) (λ list to b. c.in_err-list.ensures list)

pub returns-then-not-sees_after : goal.returns-then-not-sees_after
returns-then-not-sees_after g c =
    let f = c.in_ok-list.ensures in
    let v = f.so_far in
    rw c.forget.ensures (λ list to b. record {
      halts = leads_halts (λ o. due_in_list list v.statements o) (v.reads list) (list_unended list v.statements f.ended (λ o. b.only v.statements o _ (c.if-not-sees_after.ensures.no refl)));
      ahead = omega (arith, v.sized);
      within = v.within;
    })

pub returns-then-self-eq1 : goal.returns-then-self-eq1
returns-then-self-eq1 g c =
    let f = c.in_ok-list.ensures in
    let v = f.so_far in
    let e = c.if-not-sees_after.ensures.yes refl in
    rw c.forget-then-self-eq1.ensures (λ list to b. record {
      halts = leads_halts (λ o. due_in_list list v.statements o) (v.reads list) (brace_sinks list to v.statements e.token b e.stands.is e.role_is c.if-self-eq1.true);
      ahead = omega (arith, v.sized);
      within = v.within;
    })

pub returns : goal.returns
returns g c =
    let f = c.in_ok-list.ensures in
    let v = f.so_far in
    let e = c.if-not-sees_after.ensures.yes refl in
    record {
      statements = v.statements;
      shown = v.shown;
      sized = omega (arith, v.sized);
      reads = λ list to b. leads (λ o. due_in_list list v.statements o) (v.reads list) (brace_closes list to v.statements e.token b e.stands.is e.role_is (omega (arith, c.args.self.now.deep, c.if-self-eq1.false)));
      within = omega (arith, e.stands.within);
      flat = v.flat;
    }
