use Rattle.std.proofs.Common.{refl, sym, ap, arith}
use Rattle.std.proofs.lemmas.Result.{err_from_is_err_and}
use Rattle.php_ast.specs.statement.Tree.{no_statement, and_statement}
use Rattle.php_ast.specs.statement.View.{statements_view}
use Rattle.php_build.proofs.Flats.{all_push}
use Rattle.php_flat.specs.Statements.{is_flat_statement, are_flat_statements}
use Rattle.php_grammar.specs.statement.Forms.{due_in_list}
use Rattle.php_parse_simple.proofs.Fails.{later}
use Rattle.php_parse_simple.proofs.Moves.{leads}
use Rattle.php_parse_statement.proofs.Lists.{one_more, one_failed, statements_more}
use Rattle.php_parse_statement.proofs.parser.Parser.statements.Goals as goal

pub loop-items-init : goal.loop-items-init
loop-items-init g c = record {
  statements = no_statement;
  shown = ap statements_view c.new-items.ensures;
  sized = omega arith;
  reads = λ list. record { same = λ n o is. refl };
  within = c.requires;
  flat = ap are_flat_statements c.new-items.ensures;
}

pub returns-then-list_ends : goal.returns-then-list_ends
returns-then-list_ends g c = record { so_far = c.loop-items.invariant; ended = sym c.if-list_ends.ensures }

pub returns-in_err-read : goal.returns-in_err-read
returns-in_err-read g c =
    let v = c.loop-items.invariant in
    let q = err_from_is_err_and c.from_residual.result c.from_residual.ensures.1 in
    rw (q.1, q.2) (λ list. later c.args.self.now.reader.tokens.now c.args.at c.loop-items.next (λ o. due_in_list list v.statements o) c.in_err-read.field-0.0 (omega (arith, v.sized)) (v.reads list)
    (one_failed c.args.self.now.reader.room c.args.self.now.reader.tokens.now c.loop-items.next c.in_err-read.field-0.0 list v.statements c.args.self.now.deep (sym c.if-list_ends.ensures) c.in_err-read.ensures))

pub loop-items-preserved : goal.loop-items-preserved
loop-items-preserved g c =
    let v = c.loop-items.invariant in
    let r = c.in_ok-read.ensures in
    record {
      statements = and_statement v.statements r.form;
      shown = statements_more c.args.self.now.reader.tokens.now c.args.at c.loop-items.next v.statements r.form c.loop-items.items _ _ c.in_ok-push.ensures.ok v.shown v.sized r.spans.shown;
      sized = omega (arith, v.sized, r.spans.sized);
      reads = λ list. leads (λ o. due_in_list list v.statements o) (v.reads list) (one_more list v.statements r.form c.args.self.now.deep (sym c.if-list_ends.ensures) r.reads);
      within = r.within;
      flat = all_push (λ b. b) is_flat_statement c.loop-items.items _ _ c.in_ok-push.ensures.ok v.flat c.in_ok-read.read.flat;
    }

pub loop-items-smaller : goal.loop-items-smaller
loop-items-smaller g c =
    let r = c.in_ok-read.ensures in
    omega (arith, r.ahead, r.within)
