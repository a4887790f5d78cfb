use Rattle.std.proofs.Common.{refl, sym, subst, ap, arith}
use Rattle.std.proofs.lemmas.Result.{err_from_is_err_and}
use Rattle.php_ast.specs.statement.Tree.{no_statement, and_statement}
use Rattle.php_ast.specs.statement.View.{statements_view}
use Rattle.php_build.proofs.Flats.{all_push}
use Rattle.php_flat.specs.Statements.{is_flat_statement, are_flat_statements}
use Rattle.php_reader.specs.Seen.{rest}
use Rattle.php_parse_statement.specs.Rows.{RowFails}
use Rattle.php_parse_statement.proofs.Lists.{statements_more}
use Rattle.php_parse_statement.proofs.Outermost.{row_ends, row_grows, row_fails}
use Rattle.php_parse_statement.proofs.rows.read_braced.Goals as goal

pub returns-then-reader-eq1 : goal.returns-then-reader-eq1
returns-then-reader-eq1 c = subst (λ k. RowFails k c.args.reader.now.tokens.now c.args.at c.sunk.result) (sym c.if-reader-eq1.true) c.sunk.ensures

pub loop-inside-init : goal.loop-inside-init
loop-inside-init c = record {
  statements = no_statement;
  shown = ap statements_view c.new-statements.ensures;
  sized = omega arith;
  row = λ n is. refl;
  within = c.requires.within;
  flat = ap are_flat_statements c.new-statements.ensures;
}

pub returns-then-sees_brace : goal.returns-then-sees_brace
returns-then-sees_brace c =
    let v = c.loop-inside.invariant in
    let s = c.if-sees_brace.ensures in
    record {
      statements = v.statements;
      shown = v.shown;
      sized = omega (arith, v.sized);
      row = λ n is. row_ends c.args.reader.now.tokens.now c.loop-inside.next n (rest c.args.reader.now.tokens.now c.args.at) v.statements s (v.row n is);
      inside = omega (arith, c.requires.deep, c.if-reader-eq1.false);
      within = omega (arith, s.stands.within);
    }

pub returns-in_err-read : goal.returns-in_err-read
returns-in_err-read c =
    let v = c.loop-inside.invariant in
    let q = err_from_is_err_and c.from_residual.result c.from_residual.ensures.1 in
    rw (q.1, q.2) (row_fails c.args.reader.now.room c.args.reader.now.tokens.now c.args.at c.loop-inside.next v.statements c.in_err-read.field-0.0 (omega (arith, c.requires.deep, c.if-reader-eq1.false)) (omega (arith, v.sized))
    v.row c.if-sees_brace.ensures c.in_err-read.ensures)

pub loop-inside-preserved : goal.loop-inside-preserved
loop-inside-preserved c =
    let v = c.loop-inside.invariant in
    let r = c.in_ok-read.ensures in
    record {
      statements = and_statement v.statements r.form;
      shown = statements_more c.args.reader.now.tokens.now c.args.at c.loop-inside.next v.statements r.form c.loop-inside.statements _ _ c.in_ok-push.ensures.ok v.shown v.sized r.spans.shown;
      sized = omega (arith, v.sized, r.spans.sized);
      row = λ n is. row_grows c.args.reader.now.room c.args.reader.now.tokens.now n (rest c.args.reader.now.tokens.now c.args.at) c.loop-inside.next c.in_ok-read.read.next v.statements r.form is (v.row n is) c.if-sees_brace.ensures r.reads;
      within = r.within;
      flat = all_push (λ b. b) is_flat_statement c.loop-inside.statements _ _ c.in_ok-push.ensures.ok v.flat c.in_ok-read.read.flat;
    }

pub loop-inside-smaller : goal.loop-inside-smaller
loop-inside-smaller c =
    let r = c.in_ok-read.ensures in
    omega (arith, r.ahead, r.within)
