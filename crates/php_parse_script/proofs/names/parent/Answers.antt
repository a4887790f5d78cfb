use Rattle.std.proofs.Common.{◌+◌, Some, ap, arith}
use Rattle.std.proofs.lemmas.Result.{err_from_is_err_and}
use Rattle.php_grammar.specs.declaration.ScriptMachine.{due_parent}
use Rattle.php_grammar.specs.statement.Machine.{named_here}
use Rattle.php_parse_script.proofs.Moves.{leads, later}
use Rattle.php_parse_script.proofs.Named.{extends_read, parent_named, parent_fails}
use Rattle.php_parse_script.proofs.names.parent.Goals as goal

pub returns-in_err-name : goal.returns-in_err-name
returns-in_err-name c =
    let g = c.if-not-sees_extends.ensures in
    let q = err_from_is_err_and c.from_residual.result c.from_residual.ensures.1 in
    rw (q.1, q.2) (λ items words n. later c.args.reader.now.tokens.now c.args.at (c.args.at + 1) (due_parent items words n) c.in_err-name.field-0.0 (omega arith)
    (extends_read items words n g.token g.stands.is g.role_is) (parent_fails c.args.reader.now.room items words n c.args.reader.now.tokens.now (c.args.at + 1) c.in_err-name.field-0.0 (omega (arith, g.stands.within)) c.in_err-name.ensures))

pub returns : goal.returns
returns c =
    let g = c.if-not-sees_extends.ensures in
    let s = c.in_ok-name.ensures in
    record {
      parent = Some (named_here s.0);
      shown = ap Some s.2;
      sized = omega arith;
      reads = λ items words n. leads (due_parent items words n) (extends_read items words n g.token g.stands.is g.role_is) (parent_named items words n s.1.token s.0 s.1.stands.is s.1.role_is);
      past = tt;
      within = omega (arith, s.1.stands.within);
    }
