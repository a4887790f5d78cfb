use Rattle.std.proofs.Common.{refl, ◌∙◌, ap, arith}
use Rattle.std.proofs.lemmas.Result.{err_from_is_err_and}
use Rattle.std.specs.List.{list_all}
use Rattle.php_ast.specs.expression.Placed.{notes_of}
use Rattle.php_ast.specs.statement.Tree.{empty, then_also}
use Rattle.php_ast.specs.statement.View.{sequence}
use Rattle.php_ast.specs.declaration.Placed.{size_item, noted_item}
use Rattle.php_ast.specs.declaration.View.{item_view}
use Rattle.php_flat.specs.Declarations.{is_flat_script_item}
use Rattle.php_grammar.specs.declaration.ScriptMachine.{due_item}
use Rattle.php_grammar_laws.specs.Walks.{walk_script}
use Rattle.php_parse_script.proofs.Moves.{leads, stays, later}
use Rattle.php_flat.proofs.Lists.{joined_more, all_with}
use Rattle.php_parse_script.proofs.script.read_script.Goals as goal

pub loop-items-init : goal.loop-items-init
loop-items-init c = record {
  form = empty;
  shown = ap (sequence item_view) c.new-items.ensures;
  sized = refl;
  flat = ap (list_all is_flat_script_item) c.new-items.ensures;
  reads = stays;
  within = omega arith;
}

pub returns-then-not-stands : goal.returns-then-not-stands
returns-then-not-stands c =
    let v = c.loop-items.invariant in
    record {
      form = v.form;
      shown = v.shown;
      comes = λ n is. v.reads.same n is ∙ ap (walk_script n (due_item v.form)) (c.if-not-stands.ensures.no refl);
    }

pub returns-in_err-read : goal.returns-in_err-read
returns-in_err-read c =
    let v = c.loop-items.invariant in
    let q = err_from_is_err_and c.from_residual.result c.from_residual.ensures.1 in
    rw (q.1, q.2) (later c.args.reader.now.tokens.now 0 c.loop-items.next (due_item v.form) c.in_err-read.field-0.0 (omega arith) v.reads (c.in_err-read.ensures v.form))

pub loop-items-preserved : goal.loop-items-preserved
loop-items-preserved c =
    let v = c.loop-items.invariant in
    let i = c.in_ok-read.ensures in
    record {
      form = then_also v.form i.form;
      shown = joined_more item_view size_item (noted_item (notes_of c.args.reader.now.tokens.now)) 0 c.loop-items.next v.form i.form c.loop-items.items _ _ c.in_ok-push.ensures.ok v.shown (omega (arith, v.sized)) i.shown;
      sized = omega (arith, v.sized, i.sized);
      flat = all_with is_flat_script_item c.loop-items.items _ _ c.in_ok-push.ensures.ok v.flat c.in_ok-read.read.flat;
      reads = leads (due_item v.form) v.reads (i.reads v.form);
      within = i.within;
    }
