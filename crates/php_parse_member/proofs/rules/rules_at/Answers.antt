use Rattle.std.proofs.Common.{refl, ap, arith}
use Rattle.std.proofs.lemmas.Result.{err_from_is_err_and}
use Rattle.php_ast.specs.expression.Placed.{notes_of}
use Rattle.php_ast.specs.statement.Tree.{empty, then_also}
use Rattle.php_ast.specs.statement.View.{sequence}
use Rattle.php_ast.specs.declaration.Placed.{size_rule, noted_rule}
use Rattle.php_ast.specs.declaration.View.{rule_view}
use Rattle.php_grammar.specs.declaration.MemberMachine.{due_rule}
use Rattle.php_parse_member.specs.RuleAnswer.{ruled}
use Rattle.php_parse_member.proofs.Moves.{leads, later}
use Rattle.php_parse_member.proofs.Ruled.{rules_end}
use Rattle.php_flat.proofs.Lists.{joined_more}
use Rattle.php_parse_member.proofs.rules.rules_at.Goals as goal

pub loop-rules-init : goal.loop-rules-init
loop-rules-init c = record {
  rules = empty;
  shown = ap (sequence rule_view) c.new-rules.ensures;
  sized = omega arith;
  reads = λ traits. record { same = λ n is. refl };
  within = c.requires.within;
}

pub returns-then-sees_right_brace : goal.returns-then-sees_right_brace
returns-then-sees_right_brace c =
    let v = c.loop-rules.invariant in
    let e = c.if-sees_right_brace.ensures in
    record {
      rules = v.rules;
      shown = v.shown;
      sized = omega (arith, v.sized);
      reads = λ traits. leads (due_rule (ruled traits v.rules)) (v.reads traits) (rules_end traits v.rules e.token _ e.stands.is e.role_is c.requires.deep);
      within = omega (arith, e.stands.within);
    }

pub returns-in_err-read : goal.returns-in_err-read
returns-in_err-read c =
    let v = c.loop-rules.invariant in
    let q = err_from_is_err_and c.from_residual.result c.from_residual.ensures.1 in
    rw (q.1, q.2) (λ traits. later c.args.reader.now.tokens.now c.args.at c.loop-rules.next (due_rule (ruled traits v.rules)) c.in_err-read.field-0.0 (omega (arith, v.sized)) (v.reads traits) (c.in_err-read.ensures (ruled traits v.rules)))

pub loop-rules-preserved : goal.loop-rules-preserved
loop-rules-preserved c =
    let v = c.loop-rules.invariant in
    let r = c.in_ok-read.ensures in
    record {
      rules = then_also v.rules r.form;
      shown = joined_more rule_view size_rule (noted_rule (notes_of c.args.reader.now.tokens.now)) c.args.at c.loop-rules.next v.rules r.form c.loop-rules.rules _ _ c.in_ok-push.ensures.ok v.shown v.sized r.shown;
      sized = omega (arith, v.sized, r.sized);
      reads = λ traits. leads (due_rule (ruled traits v.rules)) (v.reads traits) (r.reads (ruled traits v.rules));
      within = r.within;
    }

pub loop-rules-smaller : goal.loop-rules-smaller
loop-rules-smaller c =
    let r = c.in_ok-read.ensures in
    omega (arith, r.ahead, r.within)
