use Rattle.std.proofs.Common.{◌+◌, map, refl, ap, arith}
use Rattle.std.specs.List.{list_all}
use Rattle.std.proofs.lemmas.Result.{err_from_is_err_and}
use Rattle.php_ast.specs.statement.Tree.{no_case, and_case}
use Rattle.php_ast.specs.statement.View.{cases_from}
use Rattle.php_flat.specs.Statements.{is_flat_case}
use Rattle.php_grammar.specs.statement.Forms.{due_case}
use Rattle.php_parse_simple.specs.Parts.{case_parts}
use Rattle.php_parse_simple.proofs.Fails.{later}
use Rattle.php_parse_statement.proofs.Flats.{cases_flat}
use Rattle.php_parse_simple.proofs.Moves.{leads}
use Rattle.php_parse_statement.proofs.Cases.{cases_more}
use Rattle.php_parse_statement.proofs.parser.Parser.cases.Goals as goal

pub loop-is_default-init : goal.loop-is_default-init
loop-is_default-init g c = record {
  cases = no_case;
  shown = ap (λ l. cases_from no_case (map case_parts l)) c.new-items.ensures;
  sized = omega arith;
  reads = λ e form. record { same = λ n o is. refl };
  within = c.requires;
  flat = ap (list_all is_flat_case) c.new-items.ensures;
}

pub returns-in_default : goal.returns-in_default
returns-in_default g c =
    let s = c.in_default.ensures in
    record { so_far = c.loop-is_default.invariant; no_case_word = s.0; no_default = s.1 }

pub returns-in_err-case : goal.returns-in_err-case
returns-in_err-case g c =
    let v = c.loop-is_default.invariant in
    let q = err_from_is_err_and c.from_residual.result c.from_residual.ensures.1 in
    rw (q.1, q.2) (λ e form. later c.args.self.now.reader.tokens.now c.args.at c.loop-is_default.next (λ o. due_case e form v.cases o) c.in_err-case.field-0.0 (omega (arith, v.sized)) (v.reads e form) (c.in_err-case.ensures e form v.cases))

pub loop-is_default-preserved : goal.loop-is_default-preserved
loop-is_default-preserved g c =
    let v = c.loop-is_default.invariant in
    let r = c.in_ok-case.ensures in
    record {
      cases = and_case v.cases tt r.label c.in_ok-case.case.item.end r.body;
      shown = cases_more c.args.self.now.reader.tokens.now c.args.at c.loop-is_default.next v.cases r.label r.body c.loop-is_default.items _ _ c.in_ok-push.ensures.ok v.shown v.sized r.spot_is r.label_shown r.body_shown;
      sized = omega (arith, v.sized, r.sized);
      reads = λ e form. leads (λ o. due_case e form v.cases o) (v.reads e form) (r.reads e form v.cases);
      within = r.within;
      flat = cases_flat c.loop-is_default.items _ _ c.in_ok-push.ensures.ok v.flat r.flat_value r.flat_body;
    }

pub loop-is_default-smaller : goal.loop-is_default-smaller
loop-is_default-smaller g c =
    let r = c.in_ok-case.ensures in
    omega (arith, r.sized, r.within)
