use Rattle.std.proofs.Common.{ap, arith, refl}
use Rattle.std.proofs.lemmas.Result.{err_from_is_err_and}
use Rattle.php_ast.specs.statement.Tree.{empty, then_also}
use Rattle.php_ast.specs.statement.View.{sequence}
use Rattle.php_ast.specs.declaration.View.{param_view}
use Rattle.php_grammar.specs.declaration.SignatureMachine.{due_param}
use Rattle.php_parse_signature.specs.Answer.{behind, valued}
use Rattle.php_flat.specs.Declarations.{are_flat_params, is_flat_param}
use Rattle.php_parse_signature.proofs.Moves.{leads, leads_halts, later}
use Rattle.php_flat.proofs.Lists.{all_with}
use Rattle.php_parse_signature.proofs.Wholes.{params_more}
use Rattle.php_parse_signature.proofs.Lists.{comma_leads, end_leads, neither_halts}
use Rattle.php_parse_signature.proofs.params.some_params.Goals as goal

pub loop-params-init : goal.loop-params-init
loop-params-init c = record {
  params = empty;
  shown = ap (sequence param_view) c.new-params.ensures;
  sized = omega arith;
  flat = ap are_flat_params c.new-params.ensures;
  reads = record { same = λ n is. refl };
  no_end = λ h. c.requires.no_end;
  within = c.requires.within;
}

pub returns-in_err-read : goal.returns-in_err-read
returns-in_err-read c =
    let v = c.loop-params.invariant in
    let q = err_from_is_err_and c.from_residual.result c.from_residual.ensures.1 in
    rw (q.1, q.2) (later c.args.reader.now.tokens.now c.args.at c.loop-params.next (due_param v.params) c.in_err-read.field-0.0 (omega (arith, v.sized)) v.reads (c.in_err-read.ensures v.params v.no_end))

pub returns-then-ends_with : goal.returns-then-ends_with
returns-then-ends_with c =
    let v = c.loop-params.invariant in
    let i = c.in_ok-read.ensures in
    record {
      params = then_also v.params (valued i.front i.value);
      shown = params_more c.args.reader.now.tokens.now c.args.at c.loop-params.next v.params (valued i.front i.value) c.loop-params.params _ _ c.in_ok-push.ensures.ok v.shown v.sized i.shown;
      sized = omega (arith, v.sized, i.sized);
      reads = leads (due_param v.params) v.reads (leads (behind v.params i.front i.value) (i.reads v.params)
          (end_leads c.args.reader.now.tokens.now c.in_ok-read.read.next c.args.reader.now.room v.params i.front i.value c.requires.deep (c.if-ends_with.ensures.yes refl)));
      within = let e = c.if-ends_with.ensures.yes refl in omega (arith, e.stands.within);
    }

pub returns-then-not-ends_with : goal.returns-then-not-ends_with
returns-then-not-ends_with c =
    let v = c.loop-params.invariant in
    let i = c.in_ok-read.ensures in
    record {
      halts = leads_halts (due_param v.params) v.reads (leads_halts (behind v.params i.front i.value) (i.reads v.params)
          (neither_halts c.args.reader.now.room v.params i.front i.value _ c.requires.deep i.rests (c.if-not-ends_with.ensures.no refl) (c.if-ends_with.ensures.no refl)));
      ahead = omega (arith, v.sized, i.ahead);
      within = i.within;
    }

pub loop-params-preserved : goal.loop-params-preserved
loop-params-preserved c =
    let v = c.loop-params.invariant in
    let i = c.in_ok-read.ensures in
    let e = c.if-not-ends_with.ensures.yes refl in
    record {
      params = then_also v.params (valued i.front i.value);
      shown = params_more c.args.reader.now.tokens.now c.args.at c.loop-params.next v.params (valued i.front i.value) c.loop-params.params _ _ c.in_ok-push.ensures.ok v.shown v.sized i.shown;
      sized = omega (arith, v.sized, i.sized);
      flat = all_with is_flat_param c.loop-params.params _ _ c.in_ok-push.ensures.ok v.flat c.in_ok-read.read.flat;
      reads = leads (due_param v.params) v.reads (leads (behind v.params i.front i.value) (i.reads v.params)
          (comma_leads c.args.reader.now.tokens.now c.in_ok-read.read.next c.args.reader.now.room v.params i.front i.value c.requires.deep e));
      no_end = λ h. absurd (cc);
      within = omega (arith, e.stands.within);
    }

pub loop-params-smaller : goal.loop-params-smaller
loop-params-smaller c =
    let i = c.in_ok-read.ensures in
    let e = c.if-not-ends_with.ensures.yes refl in
    omega (arith, i.ahead, e.stands.within)
