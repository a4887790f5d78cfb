use Rattle.std.proofs.Common.{◌+◌, refl, ap, arith}
use Rattle.std.proofs.lemmas.Result.{err_from_is_err_and}
use Rattle.php_ast.specs.statement.Tree.{no_statement}
use Rattle.php_grammar.specs.statement.Forms.{of_case, due_in_list}
use Rattle.php_parse_simple.proofs.Fails.{later}
use Rattle.php_parse_simple.proofs.Moves.{leads}
use Rattle.php_parse_statement.proofs.Cases.{case_ends}
use Rattle.php_parse_statement.proofs.Listing.{list_shift}
use Rattle.php_parse_statement.proofs.parser.Parser.case.Goals as goal

pub returns-in_err-label : goal.returns-in_err-label
returns-in_err-label g c =
    let q = err_from_is_err_and c.from_residual.result c.from_residual.ensures.1 in
    rw (q.1, q.2) c.in_err-label.ensures

pub returns-in_err-list : goal.returns-in_err-list
returns-in_err-list g c =
    let l = c.in_ok-label.ensures in
    let q = err_from_is_err_and c.from_residual-in_err-list.result c.from_residual-in_err-list.ensures.1 in
    rw (q.1, q.2) (λ e form cases. later c.args.self.now.reader.tokens.now c.args.at _ (λ o. due_in_list (of_case e form cases l.label c.in_ok-label.label.end) no_statement o) c.in_err-list.field-0.0 (omega (arith, l.ahead))
    (l.reads e form cases) (c.in_err-list.ensures (of_case e form cases l.label c.in_ok-label.label.end)))

pub returns : goal.returns
returns g c =
    let l = c.in_ok-label.ensures in
    let f = c.in_ok-list.ensures in
    let v = f.so_far in
    record {
      label = l.label;
      body = v.statements;
      spot_is = c.spot.ensures;
      label_shown = l.shown;
      body_shown = list_shift c.args.self.now.reader.tokens.now _ v.statements _ _ v.shown l.sized;
      sized = omega (arith, l.sized, v.sized);
      reads = λ e form cases. leads (λ o. due_in_list (of_case e form cases l.label c.in_ok-label.label.end) v.statements o)
          (leads (λ o. due_in_list (of_case e form cases l.label c.in_ok-label.label.end) no_statement o) (l.reads e form cases) (v.reads (of_case e form cases l.label c.in_ok-label.label.end)))
          (case_ends e form cases l.label c.in_ok-label.label.end v.statements f.ended);
      within = v.within;
      flat_value = c.in_ok-label.label.flat;
      flat_body = v.flat;
    }
