use Rattle.std.proofs.Common.{◌+◌, ◌∙◌, refl, sym, ap, arith}
use Rattle.std.proofs.lemmas.Result.{err_from_is_err_and}
use Rattle.php_ast.specs.expression.Placed.{notes_of}
use Rattle.php_ast.specs.declaration.Placed.{noted_method_body}
use Rattle.php_grammar.specs.declaration.FunctionMachine.{method_form, routine}
use Rattle.php_reader.specs.Seen.{rest}
use Rattle.php_parse_member.proofs.Routines.{body_fails}
use Rattle.php_parse_member.proofs.methods.method_at.Goals as goal

pub returns-in_err-block : goal.returns-in_err-block
returns-in_err-block c =
    let h = c.in_ok-head.ensures in
    let q = err_from_is_err_and c.from_residual-in_err-block.result c.from_residual-in_err-block.ensures.1 in
    rw (q.1, q.2) (body_fails method_form c.args.reader.now.room c.in_ok-head.head.is_reference h.name h.signature (rest c.args.reader.now.tokens.now (c.args.at + 1)) (rest c.args.reader.now.tokens.now c.in_ok-head.head.next)
    c.args.reader.now.tokens.now (c.args.at + 1) c.in_ok-head.head.next c.in_err-block.field-0.0 (omega (arith, h.sized)) h.reads (c.in_err-block.ensures c.in_ok-head.head.is_reference h.name h.signature))

pub returns : goal.returns
returns c =
    let h = c.in_ok-head.ensures in
    let b = c.in_ok-block.ensures in
    record {
      form = routine c.in_ok-head.head.is_reference h.name h.signature b.form;
      reference_is = refl;
      named = h.named;
      signed = h.signed;
      bodied = b.shown ∙ ap (λ k. noted_method_body (notes_of c.args.reader.now.tokens.now) k b.form) (sym h.sized);
      sized = omega (arith, h.sized, b.sized);
      comes = λ n is. h.reads n is ∙ b.reads c.in_ok-head.head.is_reference h.name h.signature n is;
      within = b.within;
    }
