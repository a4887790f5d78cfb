use Rattle.std.proofs.Common.{◌+◌, ◌∙◌, sym, ap, arith}
use Rattle.std.proofs.lemmas.Result.{err_from_is_err_and}
use Rattle.php_ast.specs.expression.Placed.{noted_member, notes_of}
use Rattle.php_ast.specs.declaration.Placed.{noted_signature}
use Rattle.php_grammar.specs.declaration.FunctionMachine.{method_form}
use Rattle.php_reader.specs.Seen.{rest}
use Rattle.php_parse_member.proofs.Routines.{marked_reads, marked_lacks, marked_fails, method_unnamed}
use Rattle.php_parse_member.proofs.methods.method_head.Goals as goal

pub returns-in_default : goal.returns-in_default
returns-in_default c =
    marked_lacks method_form c.args.reader.now.room c.args.reader.now.tokens.now (c.args.at + 1) c.reference-marked.result (rw c.behind.ensures at c.reference-marked.ensures)
    (method_unnamed c.args.reader.now.tokens.now c.reference-marked.result.next (rw c.in_default.is at c.in_ok-name.ensures))

pub returns-in_err-read : goal.returns-in_err-read
returns-in_err-read c =
    let s = rw c.in-Some.is at c.in_ok-name.ensures in
    let q = err_from_is_err_and c.from_residual-in_err-read.result c.from_residual-in_err-read.ensures.1 in
    rw (q.1, q.2) (marked_fails method_form c.args.reader.now.room c.args.reader.now.tokens.now (c.args.at + 1) c.reference-marked.result s.0 s.1.token c.in_err-read.field-0.0 (rw c.behind.ensures at c.reference-marked.ensures) s.1.stands.is
    s.1.role_is c.in_err-read.ensures)

pub returns : goal.returns
returns c =
    let s = rw c.in-Some.is at c.in_ok-name.ensures in
    let r = c.in_ok-read.ensures in
    let m = (rw c.behind.ensures at c.reference-marked.ensures) in
    record {
      name = s.0;
      signature = r.form;
      named = s.2 ∙ ap (λ k. noted_member (notes_of c.args.reader.now.tokens.now) k s.0) (sym m.sized);
      signed = r.shown ∙ ap (λ k. noted_signature (notes_of c.args.reader.now.tokens.now) k r.form) (omega (arith, m.sized));
      sized = omega (arith, m.sized, r.sized);
      reads = λ n is. marked_reads method_form n c.args.reader.now.tokens.now (c.args.at + 1) c.reference-marked.result s.0 r.form s.1.token (rest c.args.reader.now.tokens.now _) m s.1.stands.is
          s.1.role_is (r.comes n is);
      within = r.within;
    }
