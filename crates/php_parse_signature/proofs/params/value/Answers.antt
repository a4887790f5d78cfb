use Rattle.std.proofs.Common.{◌+◌, Some, [], ap, arith}
use Rattle.std.proofs.lemmas.Result.{err_from_is_err_and}
use Rattle.php_grammar.specs.expression.Machine.{expects}
use Rattle.php_grammar.specs.declaration.SignatureMachine.{in_default}
use Rattle.php_parse_signature.proofs.Moves.{leads, later}
use Rattle.php_parse_signature.proofs.Values.{assign_leads}
use Rattle.php_parse_signature.proofs.params.value.Goals as goal

pub returns-in_err-expr : goal.returns-in_err-expr
returns-in_err-expr c =
    let q = err_from_is_err_and c.from_residual.result c.from_residual.ensures.1 in
    rw (q.1, q.2) (λ params p. later c.args.reader.now.tokens.now c.args.at (c.args.at + 1) (in_default params p (expects [])) c.in_err-expr.field-0.0 (omega arith)
    (assign_leads c.args.reader.now.tokens.now c.args.at c.args.reader.now.room params p c.requires.deep c.if-not-sees_assign.ensures) (c.in_err-expr.ensures params p))

pub returns : goal.returns
returns c =
    let f = c.in_ok-expr.ensures in
    record {
      value = Some f.form;
      shown = ap Some f.shown;
      sized = omega (arith, f.sized);
      reads = λ params p. leads (in_default params p (expects []))
          (assign_leads c.args.reader.now.tokens.now c.args.at c.args.reader.now.room params p c.requires.deep c.if-not-sees_assign.ensures) (f.reads params p);
      rests = f.rests;
      within = f.within;
    }
