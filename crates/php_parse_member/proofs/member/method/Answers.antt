use Rattle.std.proofs.Common.{◌+◌, arith}
use Rattle.std.proofs.lemmas.Result.{err_from_is_err_and}
use Rattle.php_grammar.specs.declaration.MemberMachine.{past_modifiers, in_method, method_of}
use Rattle.php_grammar.specs.declaration.FunctionMachine.{past_function}
use Rattle.php_parse_member.proofs.Moves.{leads, later}
use Rattle.php_parse_member.proofs.Steps.{method_begins, method_comes, method_fails}
use Rattle.php_parse_member.proofs.Shown.{method_shown, method_size}
use Rattle.php_parse_member.proofs.member.method.Goals as goal

pub returns-in_err-read : goal.returns-in_err-read
returns-in_err-read c =
    let b = c.requires.behind in
    let h = c.requires.here in
    let q = err_from_is_err_and c.from_residual.result c.from_residual.ensures.1 in
    rw (q.1, q.2) (later c.args.reader.now.tokens.now c.args.at (c.args.place + 1) (in_method b.modifiers past_function) c.in_err-read.field-0.0 (omega (arith, b.sized))
    (leads (past_modifiers b.modifiers) b.reads (method_begins b.modifiers h.token _ h.stands.is h.role_is c.requires.deep))
    (method_fails c.args.reader.now.room b.modifiers c.args.reader.now.tokens.now (c.args.place + 1) c.in_err-read.field-0.0 c.in_err-read.ensures))

pub returns : goal.returns
returns c =
    let b = c.requires.behind in
    let h = c.requires.here in
    let r = c.in_ok-read.ensures in
    record {
      form = method_of b.modifiers r.form;
      shown = method_shown c.args.reader.now.tokens.now c.args.at c.args.place _ _ _ _ _ _ _ b.modifiers r.form c.method_member.ensures.shown b.shown c.spot.ensures r.reference_is r.named r.signed r.bodied (omega (arith, b.sized));
      sized = method_size c.args.at c.args.place _ _ b.modifiers r.form r.reference_is b.sized r.sized;
      comes = method_comes b.modifiers r.form (leads (past_modifiers b.modifiers) b.reads (method_begins b.modifiers h.token _ h.stands.is h.role_is c.requires.deep)) r.comes;
      ahead = omega (arith, b.sized, r.sized);
      within = r.within;
    }
