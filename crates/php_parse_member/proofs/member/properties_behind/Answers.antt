use Rattle.std.proofs.Common.{arith}
use Rattle.std.proofs.lemmas.Result.{err_from_is_err_and}
use Rattle.php_ast.specs.statement.Tree.{empty}
use Rattle.php_ast.specs.declaration.Tree.{properties}
use Rattle.php_grammar.specs.declaration.MemberMachine.{past_modifiers, due_property}
use Rattle.php_parse_member.proofs.Moves.{leads, later}
use Rattle.php_parse_member.proofs.Steps.{comes, properties_begin}
use Rattle.php_parse_member.proofs.Shown.{properties_shown}
use Rattle.php_parse_member.proofs.member.properties_behind.Goals as goal

pub returns-in_err-read : goal.returns-in_err-read
returns-in_err-read c =
    let b = c.requires.behind in
    let h = c.requires.here in
    let q = err_from_is_err_and c.from_residual.result c.from_residual.ensures.1 in
    rw (q.1, q.2) (later c.args.reader.now.tokens.now c.args.at c.args.place (due_property b.modifiers empty) c.in_err-read.field-0.0 (omega (arith, b.sized))
    (leads (past_modifiers b.modifiers) b.reads (properties_begin c.args.at c.args.place b.modifiers _ h.token _ h.stands.is h.role_is c.requires.some b.sized)) (c.in_err-read.ensures b.modifiers))

pub returns : goal.returns
returns c =
    let b = c.requires.behind in
    let h = c.requires.here in
    let r = c.in_ok-read.ensures in
    record {
      form = properties b.modifiers r.items;
      shown = properties_shown c.args.reader.now.tokens.now c.args.at _ _ _ _ b.modifiers r.items c.properties_member.ensures.shown b.shown r.shown (omega (arith, b.sized));
      sized = omega (arith, b.sized, r.sized);
      comes = comes (properties b.modifiers r.items)
          (leads (due_property b.modifiers empty) (leads (past_modifiers b.modifiers) b.reads (properties_begin c.args.at c.args.place b.modifiers _ h.token _ h.stands.is h.role_is c.requires.some b.sized)) (r.reads b.modifiers));
      ahead = omega (arith, b.sized, r.ahead);
      within = r.within;
    }
