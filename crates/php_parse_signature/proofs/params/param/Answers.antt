use Rattle.std.proofs.Common.{refl, ◌∙◌, ap, arith}
use Rattle.std.proofs.lemmas.Result.{err_from_is_err_and}
use Rattle.php_ast.specs.expression.Placed.{notes_of}
use Rattle.php_ast.specs.statement.Placed.{noted_optional}
use Rattle.php_grammar.specs.statement.Machine.{named_here}
use Rattle.php_grammar.specs.declaration.SignatureMachine.{past_param}
use Rattle.php_parse_signature.specs.Answer.{front_of}
use Rattle.php_parse_signature.proofs.Heads.{front_leads}
use Rattle.php_parse_signature.proofs.Moves.{leads, later}
use Rattle.php_parse_signature.proofs.Values.{valued_shown, valued_size}
use Rattle.php_parse_signature.proofs.params.param.Goals as goal

pub returns-in_err-front : goal.returns-in_err-front
returns-in_err-front c =
    let q = err_from_is_err_and c.from_residual.result c.from_residual.ensures.1 in
    rw (q.1, q.2) (c.in_err-front.ensures c.args.reader.now.room c.requires.deep)

pub returns-in_err-value : goal.returns-in_err-value
returns-in_err-value c =
    let f = c.in_ok-front.ensures in
    let q = err_from_is_err_and c.from_residual-in_err-value.result c.from_residual-in_err-value.ensures.1 in
    rw (q.1, q.2) (λ params begin. later c.args.reader.now.tokens.now c.args.at c.in_ok-front.front.next (past_param params (front_of f.declared c.in_ok-front.front f.text)) c.in_err-value.field-0.0
    (omega (arith, f.sized)) (front_leads c.args.reader.now.tokens.now c.args.at c.in_ok-front.front f c.args.reader.now.room c.requires.deep params)
    (c.in_err-value.ensures params (front_of f.declared c.in_ok-front.front f.text)))

pub returns : goal.returns
returns c =
    let f = c.in_ok-front.ensures in
    let v = c.in_ok-value.ensures in
    let p = front_of f.declared c.in_ok-front.front f.text in
    record {
      front = front_of f.declared c.in_ok-front.front f.text;
      value = v.value;
      shown = valued_shown c.args.reader.now.tokens.now c.args.at _ _ _ _ _ f.declared (named_here f.text) v.value f.typed f.named
          (v.shown ∙ ap (λ k. noted_optional (notes_of c.args.reader.now.tokens.now) k v.value) (omega (arith, f.sized)));
      sized = omega (arith, f.sized, v.sized, valued_size (front_of f.declared c.in_ok-front.front f.text) v.value refl);
      reads = λ params. leads (past_param params (front_of f.declared c.in_ok-front.front f.text))
          (front_leads c.args.reader.now.tokens.now c.args.at c.in_ok-front.front f c.args.reader.now.room c.requires.deep params)
          (v.reads params (front_of f.declared c.in_ok-front.front f.text));
      rests = v.rests;
      ahead = omega (arith, f.sized, v.sized);
      within = v.within;
    }
