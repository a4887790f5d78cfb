use Rattle.std.proofs.Common.{ap, arith}
use Rattle.std.proofs.lemmas.Result.{err_from_is_err_and}
use Rattle.php_ast.specs.expression.Placed.{notes_of}
use Rattle.php_ast.specs.statement.Tree.{empty, then_also}
use Rattle.php_ast.specs.statement.View.{name_view, names_view}
use Rattle.php_ast.specs.statement.Placed.{size_name, noted_name}
use Rattle.php_grammar.specs.declaration.ScriptMachine.{due_interface, past_heading}
use Rattle.php_grammar.specs.statement.Machine.{named_here}
use Rattle.php_parse_script.specs.Owner.{owned}
use Rattle.php_parse_script.proofs.Moves.{leads, stays, later}
use Rattle.php_parse_script.proofs.Named.{interface_named, interface_fails, comma_read}
use Rattle.php_flat.proofs.Lists.{separated_more}
use Rattle.php_parse_script.proofs.names.names.Goals as goal

pub loop-names-init : goal.loop-names-init
loop-names-init c = record {
  names = empty;
  shown = ap names_view c.new-names.ensures;
  sized = omega arith;
  reads = λ items o. stays;
  within = c.requires;
}

pub returns-in_err-name : goal.returns-in_err-name
returns-in_err-name c =
    let v = c.loop-names.invariant in
    let q = err_from_is_err_and c.from_residual.result c.from_residual.ensures.1 in
    rw (q.1, q.2) (λ items o. later c.args.reader.now.tokens.now c.args.at c.loop-names.next (due_interface items (owned o v.names)) c.in_err-name.field-0.0 (omega (arith, v.sized)) (v.reads items o)
    (interface_fails c.args.reader.now.room items (owned o v.names) c.args.reader.now.tokens.now c.loop-names.next c.in_err-name.field-0.0 v.within c.in_err-name.ensures))

pub returns-then-not-sees_comma : goal.returns-then-not-sees_comma
returns-then-not-sees_comma c =
    let v = c.loop-names.invariant in
    let s = c.in_ok-name.ensures in
    record {
      before = v.names;
      last = named_here s.0;
      shown = separated_more name_view size_name (noted_name (notes_of c.args.reader.now.tokens.now)) c.args.at c.loop-names.next v.names (named_here s.0) c.loop-names.names _ _ c.in_ok-push.ensures.ok v.shown v.sized s.2;
      sized = omega (arith, v.sized);
      reads = λ items o. leads (due_interface items (owned o v.names)) (v.reads items o) (interface_named items o v.names s.1.token s.0 s.1.stands.is s.1.role_is);
      no_comma = c.if-not-sees_comma.ensures;
      within = omega (arith, s.1.stands.within);
    }

pub loop-names-preserved : goal.loop-names-preserved
loop-names-preserved c =
    let v = c.loop-names.invariant in
    let s = c.in_ok-name.ensures in
    let e = c.if-not-sees_comma.ensures in
    record {
      names = then_also v.names (named_here s.0);
      shown = separated_more name_view size_name (noted_name (notes_of c.args.reader.now.tokens.now)) c.args.at c.loop-names.next v.names (named_here s.0) c.loop-names.names _ _ c.in_ok-push.ensures.ok v.shown v.sized s.2;
      sized = omega (arith, v.sized);
      reads = λ items o. leads (due_interface items (owned o v.names)) (v.reads items o) (leads (past_heading items (owned o (then_also v.names (named_here s.0)))) (interface_named items o v.names s.1.token s.0 s.1.stands.is s.1.role_is)
          (comma_read items o v.names (named_here s.0) e.token e.stands.is e.role_is));
      within = omega (arith, e.stands.within);
    }
