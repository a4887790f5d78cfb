use Rattle.std.proofs.Common.{map, refl, ap, arith}
use Rattle.std.specs.List.{list_all}
use Rattle.std.proofs.lemmas.Result.{err_from_is_err_and}
use Rattle.php_ast.specs.statement.Tree.{no_catch, and_catch}
use Rattle.php_ast.specs.statement.View.{catches_from}
use Rattle.php_flat.specs.Statements.{is_flat_catch}
use Rattle.php_grammar.specs.statement.Forms.{past_block}
use Rattle.php_parse_simple.specs.Parts.{catch_parts}
use Rattle.php_parse_simple.proofs.Fails.{later}
use Rattle.php_flat.proofs.Lists.{all_with}
use Rattle.php_parse_simple.proofs.Moves.{leads}
use Rattle.php_parse_statement.proofs.Guards.{catches_more, no_end}
use Rattle.php_parse_statement.proofs.parser.Parser.catches.Goals as goal

pub loop-items-init : goal.loop-items-init
loop-items-init g c = record {
  catches = no_catch;
  shown = ap (λ l. catches_from no_catch (map catch_parts l)) c.new-items.ensures;
  sized = omega arith;
  some = λ h. absurd (h c.new-items.ensures);
  none = λ h. refl;
  reads = λ block. record { same = λ n o is. refl };
  within = c.requires;
  flat = ap (list_all is_flat_catch) c.new-items.ensures;
}

pub returns-then-not-sees_after : goal.returns-then-not-sees_after
returns-then-not-sees_after g c = record { so_far = c.loop-items.invariant; over = c.if-not-sees_after.ensures.no refl }

pub returns-in_err-part : goal.returns-in_err-part
returns-in_err-part g c =
    let v = c.loop-items.invariant in
    let q = err_from_is_err_and c.from_residual.result c.from_residual.ensures.1 in
    rw (q.1, q.2) (λ block. later c.args.self.now.reader.tokens.now c.args.at c.loop-items.next (λ o. past_block block v.catches o) c.in_err-part.field-0.0 (omega (arith, v.sized)) (v.reads block) (c.in_err-part.ensures block v.catches))

pub loop-items-preserved : goal.loop-items-preserved
loop-items-preserved g c =
    let v = c.loop-items.invariant in
    let r = c.in_ok-part.ensures in
    record {
      catches = and_catch v.catches r.classes r.variable r.body;
      shown = catches_more c.args.self.now.reader.tokens.now c.args.at c.loop-items.next v.catches r.classes r.variable r.body c.loop-items.items _ _ c.in_ok-push.ensures.ok v.shown v.sized r.classes_shown r.variable_shown r.body_shown;
      sized = omega (arith, v.sized, r.sized);
      some = λ h. refl;
      none = λ h. absurd (no_end c.loop-items.items _ _ c.in_ok-push.ensures.ok h);
      reads = λ block. leads (λ o. past_block block v.catches o) (v.reads block) (r.reads block v.catches);
      within = r.within;
      flat = all_with is_flat_catch c.loop-items.items _ _ c.in_ok-push.ensures.ok v.flat r.flat;
    }

pub loop-items-smaller : goal.loop-items-smaller
loop-items-smaller g c =
    let r = c.in_ok-part.ensures in
    omega (arith, r.sized, r.within)
