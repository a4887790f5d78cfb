use Rattle.std.proofs.Common.{◌∙◌, ap, arith}
use Rattle.std.proofs.lemmas.Result.{err_from_is_err_and}
use Rattle.php_ast.specs.expression.Placed.{notes_of}
use Rattle.php_ast.specs.statement.Tree.{empty}
use Rattle.php_ast.specs.declaration.Placed.{noted_declared}
use Rattle.php_grammar.specs.declaration.SignatureMachine.{due_signature, due_param, past_params, signature_of}
use Rattle.php_reader.specs.Seen.{rest}
use Rattle.php_parse_signature.specs.Answer.{signature_over}
use Rattle.php_parse_signature.specs.Walk.{Leads}
use Rattle.php_parse_signature.proofs.Moves.{leads, later}
use Rattle.php_parse_signature.proofs.Wholes.{opened, comes_whole, signature_shown}
use Rattle.php_parse_signature.proofs.signature.read_signature.Goals as goal

pub returns-in_err-typed : goal.returns-in_err-typed
returns-in_err-typed c =
    let p = c.in_ok-read.ensures in
    let q = err_from_is_err_and c.from_residual-in_err-typed.result c.from_residual-in_err-typed.ensures.1 in
    rw (q.1, q.2) (later c.args.reader.now.tokens.now c.args.at c.in_ok-read.read.next (past_params p.params) c.in_err-typed.field-0.0 (omega (arith, p.sized))
    (leads (due_param empty) (opened c.args.reader.now.tokens.now c.args.at c.args.reader.now.room c.if-not-sees_paren.ensures) p.reads) (c.in_err-typed.ensures p.params))

pub returns : goal.returns
returns c =
    let p = c.in_ok-read.ensures in
    let r = c.in_ok-typed.ensures in
    let reads : Leads c.args.reader.now.room due_signature (rest c.args.reader.now.tokens.now c.args.at) (signature_over p.params r.result) (rest c.args.reader.now.tokens.now c.in_ok-typed.typed.next) =
    leads (due_param empty) (opened c.args.reader.now.tokens.now c.args.at c.args.reader.now.room c.if-not-sees_paren.ensures) (leads (past_params p.params) p.reads (r.reads p.params)) in
    record {
      form = signature_of p.params r.result;
      shown = signature_shown c.args.reader.now.tokens.now c.args.at c.in_ok-read.read.params c.in_ok-typed.typed.declared p.params r.result p.shown
          (r.shown ∙ ap (λ k. noted_declared (notes_of c.args.reader.now.tokens.now) k r.result) (omega (arith, p.sized)));
      sized = omega (arith, p.sized, r.sized);
      reads = reads;
      comes = λ n is. comes_whole c.args.reader.now.room n (rest c.args.reader.now.tokens.now c.args.at) (rest c.args.reader.now.tokens.now c.in_ok-typed.typed.next) p.params r.result reads r.over is;
      over = r.over;
      ahead = omega (arith, p.sized, r.sized);
      within = r.within;
    }
