use Rattle.std.proofs.Common.{◌+◌, refl, arith}
use Rattle.std.proofs.lemmas.Result.{err_from_is_err_and}
use Rattle.php_ast.specs.statement.Tree.{empty}
use Rattle.php_ast.specs.declaration.Tree.{uses}
use Rattle.php_grammar.specs.declaration.MemberMachine.{of_use, due_trait, past_trait}
use Rattle.php_parse_member.proofs.Moves.{leads, leads_halts, later}
use Rattle.php_parse_member.proofs.Steps.{comes}
use Rattle.php_parse_member.proofs.Ruled.{use_begins, use_ends, use_unended}
use Rattle.php_parse_member.proofs.Shown.{uses_shown}
use Rattle.php_parse_member.proofs.traits.uses.Goals as goal

pub returns-in_err-traits : goal.returns-in_err-traits
returns-in_err-traits c =
    let h = c.requires.here in
    let q = err_from_is_err_and c.from_residual.result c.from_residual.ensures.1 in
    rw (q.1, q.2) (later c.args.reader.now.tokens.now c.args.at (c.args.at + 1) (due_trait of_use empty) c.in_err-traits.field-0.0 (omega arith)
    (use_begins h.token _ h.stands.is h.role_is c.requires.deep) (c.in_err-traits.ensures of_use (omega (arith, c.requires.deep))))

pub returns-then-ends : goal.returns-then-ends
returns-then-ends c =
    let h = c.requires.here in
    let t = c.in_ok-traits.ensures in
    let e = c.if-ends.ensures.yes refl in
    record {
      form = uses tt t.names;
      shown = uses_shown c.args.reader.now.tokens.now c.args.at _ _ _ t.names c.uses_member.ensures.shown c.spot.ensures t.shown;
      sized = omega (arith, t.sized);
      comes = comes (uses tt t.names) (leads (past_trait of_use t.names)
          (leads (due_trait of_use empty) (use_begins h.token _ h.stands.is h.role_is c.requires.deep) (t.reads of_use (omega (arith, c.requires.deep))))
          (use_ends t.names e.token _ e.stands.is e.role_is c.requires.deep));
      ahead = omega (arith, t.ahead);
      within = omega (arith, e.stands.within);
    }

pub returns-then-not-sees : goal.returns-then-not-sees
returns-then-not-sees c =
    let h = c.requires.here in
    let t = c.in_ok-traits.ensures in
    record {
      halts = leads_halts (past_trait of_use t.names)
          (leads (due_trait of_use empty) (use_begins h.token _ h.stands.is h.role_is c.requires.deep) (t.reads of_use (omega (arith, c.requires.deep))))
          (use_unended t.names t.no_comma (c.if-ends.ensures.no refl) c.if-not-sees.ensures);
      ahead = omega (arith, t.ahead);
      within = t.within;
    }
