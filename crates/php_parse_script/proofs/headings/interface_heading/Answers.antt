use Rattle.std.proofs.Common.{◌+◌, refl, ap, arith, ◌∙◌}
use Rattle.std.proofs.lemmas.Result.{err_from_is_err_and}
use Rattle.php_ast.specs.expression.Placed.{notes_of}
use Rattle.php_ast.specs.statement.Tree.{empty}
use Rattle.php_ast.specs.declaration.Placed.{noted_names}
use Rattle.php_grammar.specs.declaration.ScriptMachine.{at_interface, due_heading_name, past_heading, interface_kind, interface_heading}
use Rattle.php_grammar.specs.statement.Machine.{named_here}
use Rattle.php_parse_script.proofs.Moves.{leads, later}
use Rattle.php_parse_script.proofs.Heads.{kind_read}
use Rattle.php_parse_script.proofs.Named.{heading_named, heading_fails}
use Rattle.php_parse_script.proofs.headings.interface_heading.Goals as goal

pub returns-in_err-name : goal.returns-in_err-name
returns-in_err-name c =
    let g = c.requires in
    let q = err_from_is_err_and c.from_residual.result c.from_residual.ensures.1 in
    rw (q.1, q.2) (λ items. later c.args.reader.now.tokens.now c.args.at (c.args.at + 1) (due_heading_name items interface_kind) c.in_err-name.field-0.0 (omega arith)
    (kind_read items at_interface interface_kind g.token g.stands.is g.role_is refl)
    (heading_fails c.args.reader.now.room items interface_kind c.args.reader.now.tokens.now (c.args.at + 1) c.in_err-name.field-0.0 (omega (arith, g.stands.within)) c.in_err-name.ensures))

pub returns-in_err-parents : goal.returns-in_err-parents
returns-in_err-parents c =
    let g = c.requires in
    let s = c.in_ok-name.ensures in
    let q = err_from_is_err_and c.from_residual-in_err-parents.result c.from_residual-in_err-parents.ensures.1 in
    rw (q.1, q.2) (λ items. later c.args.reader.now.tokens.now c.args.at (c.args.at + 1 + 1) (past_heading items (interface_heading (named_here s.0) empty)) c.in_err-parents.field-0.0 (omega arith)
    (leads (due_heading_name items interface_kind) (kind_read items at_interface interface_kind g.token g.stands.is g.role_is refl) (heading_named items interface_kind s.1.token s.0 s.1.stands.is s.1.role_is))
    (c.in_err-parents.ensures (named_here s.0) items))

pub returns : goal.returns
returns c =
    let g = c.requires in
    let s = c.in_ok-name.ensures in
    let i = c.in_ok-parents.ensures (named_here s.0) in
    record {
      name = named_here s.0;
      parents = i.names;
      spot_shown = c.spot.ensures;
      name_shown = s.2;
      parents_shown = i.shown ∙ ap (λ k. noted_names (notes_of c.args.reader.now.tokens.now) k i.names) (omega arith);
      sized = omega (arith, i.sized);
      reads = λ items. leads (due_heading_name items interface_kind) (kind_read items at_interface interface_kind g.token g.stands.is g.role_is refl)
          (leads (past_heading items (interface_heading (named_here s.0) empty)) (heading_named items interface_kind s.1.token s.0 s.1.stands.is s.1.role_is) (i.reads items));
      over = i.over tt;
      within = i.within;
    }
