use Rattle.std.proofs.Common.{◌+◌, arith}
use Rattle.std.proofs.lemmas.Result.{err_from_is_err_and}
use Rattle.php_ast.specs.statement.Tree.{empty}
use Rattle.php_ast.specs.declaration.Tree.{uses_by}
use Rattle.php_grammar.specs.declaration.MemberMachine.{of_use, due_trait, past_trait, due_rule}
use Rattle.php_parse_member.specs.RuleAnswer.{ruled}
use Rattle.php_parse_member.proofs.Moves.{leads, later}
use Rattle.php_parse_member.proofs.Steps.{comes}
use Rattle.php_parse_member.proofs.Ruled.{use_begins, use_opens, no_rules}
use Rattle.php_parse_member.proofs.Shown.{uses_by_shown}
use Rattle.php_parse_member.proofs.traits.with_rules.Goals as goal

pub returns-then-reader-eq1 : goal.returns-then-reader-eq1
returns-then-reader-eq1 c =
    let h = c.requires.here in
    let t = c.requires.traits in
    let b = c.requires.open in
    later c.args.reader.now.tokens.now c.args.at (c.args.traits.next + 1) (due_rule (ruled t.names empty)) c.sunk.result (omega (arith, t.ahead))
    (leads (past_trait of_use t.names) (leads (due_trait of_use empty) (use_begins h.token _ h.stands.is h.role_is c.requires.deep) (t.reads of_use (omega (arith, c.requires.deep))))
    (use_opens t.names b.token _ b.stands.is b.role_is c.requires.deep))
    (no_rules c.args.reader.now.room c.args.reader.now.tokens.now (c.args.traits.next + 1) (ruled t.names empty) c.sunk.result c.if-reader-eq1.true c.sunk.ensures)

pub returns-in_err-rules : goal.returns-in_err-rules
returns-in_err-rules c =
    let h = c.requires.here in
    let t = c.requires.traits in
    let b = c.requires.open in
    let q = err_from_is_err_and c.from_residual.result c.from_residual.ensures.1 in
    rw (q.1, q.2) (later c.args.reader.now.tokens.now c.args.at (c.args.traits.next + 1) (due_rule (ruled t.names empty)) c.in_err-rules.field-0.0 (omega (arith, t.ahead))
    (leads (past_trait of_use t.names) (leads (due_trait of_use empty) (use_begins h.token _ h.stands.is h.role_is c.requires.deep) (t.reads of_use (omega (arith, c.requires.deep))))
    (use_opens t.names b.token _ b.stands.is b.role_is c.requires.deep))
    (c.in_err-rules.ensures t.names))

pub returns : goal.returns
returns c =
    let h = c.requires.here in
    let t = c.requires.traits in
    let b = c.requires.open in
    let r = c.in_ok-rules.ensures in
    record {
      form = uses_by tt t.names r.rules;
      shown = uses_by_shown c.args.reader.now.tokens.now c.args.at _ _ c.in_ok-rules.rules.rules _ _ t.names r.rules c.uses_member.ensures.shown c.spot.ensures t.shown r.shown (omega (arith, t.sized));
      sized = omega (arith, t.sized, r.sized);
      comes = comes (uses_by tt t.names r.rules)
          (leads (due_rule (ruled t.names empty)) (leads (past_trait of_use t.names)
          (leads (due_trait of_use empty) (use_begins h.token _ h.stands.is h.role_is c.requires.deep) (t.reads of_use (omega (arith, c.requires.deep))))
          (use_opens t.names b.token _ b.stands.is b.role_is c.requires.deep)) (r.reads t.names));
      ahead = omega (arith, t.ahead, r.sized);
      within = r.within;
    }
