use Rattle.std.proofs.Common.{◌+◌, ◌∙◌, true, false, ap, arith}
use Rattle.std.proofs.lemmas.Result.{err_from_is_err_and}
use Rattle.php_grammar.specs.statement.Machine.{expected}
use Rattle.php_grammar.specs.statement.Depth.{statement_depth}
use Rattle.php_reader.specs.Seen.{rest}
use Rattle.php_parse_simple.specs.Walk.{walk_behind}
use Rattle.php_parse_simple.proofs.Bridge.{passed}
use Rattle.php_parse_simple.proofs.Fails.{later, failed}
use Rattle.php_parse_simple.proofs.Inside.{expression_walk}
use Rattle.php_parse_simple.proofs.Targets.{target_plain, target_reference, target_same, reference_shown, plain_shown}
use Rattle.php_parse_simple.proofs.heads.target.Goals as goal

pub returns-in_err-referred : goal.returns-in_err-referred
returns-in_err-referred c =
    let s = c.if-sees_ampersand.ensures in
    let q = err_from_is_err_and c.from_residual.result c.from_residual.ensures.1 in
    rw (q.1, q.2) (λ ready place is. later c.args.reader.now.tokens.now c.args.at (c.args.at + 1) (λ o. expected (place true) o) c.in_err-referred.field-0.0 (omega arith)
    (target_reference ready place s.token is s.stands.is s.role_is c.requires.some)
    (failed (λ o. 1 + statement_depth o) c.args.reader.now.room (place true) c.args.reader.now.room c.args.reader.now.tokens.now (c.args.at + 1) c.in_err-referred.field-0.0 (target_same ready place true c.args.reader.now.room is) c.in_err-referred.ensures))

pub returns-then-sees_ampersand : goal.returns-then-sees_ampersand
returns-then-sees_ampersand c =
    let s = c.if-sees_ampersand.ensures in
    let r = c.in_ok-referred.ensures in
    record {
      target = record { is_reference = true; place = r.form };
      shown = reference_shown c.args.reader.now.tokens.now c.args.at _ r.form r.spans.shown;
      sized = omega (arith, r.spans.sized);
      reads = λ ready place is n o at. (target_reference ready place s.token is s.stands.is s.role_is c.requires.some).same n o at
          ∙ expression_walk n c.args.reader.now.room (place true) o (rest c.args.reader.now.tokens.now (c.args.at + 1)) (target_same ready place true c.args.reader.now.room is o ∙ at)
          ∙ ap (passed (λ f u. walk_behind n (place true) f o u)) r.reads;
      ahead = omega (arith, r.ahead);
      within = r.within;
      flat = c.in_ok-referred.referred.flat;
    }

pub returns-in_err-read : goal.returns-in_err-read
returns-in_err-read c =
    let q = err_from_is_err_and c.from_residual-in_err-read.result c.from_residual-in_err-read.ensures.1 in
    rw (q.1, q.2) (λ ready place is. later c.args.reader.now.tokens.now c.args.at c.args.at (λ o. expected (place false) o) c.in_err-read.field-0.0 (omega arith)
    (target_plain ready place is c.if-sees_ampersand.ensures)
    (failed (λ o. 1 + statement_depth o) c.args.reader.now.room (place false) c.args.reader.now.room c.args.reader.now.tokens.now c.args.at c.in_err-read.field-0.0 (target_same ready place false c.args.reader.now.room is) c.in_err-read.ensures))

pub returns : goal.returns
returns c =
    let r = c.in_ok-read.ensures in
    record {
      target = record { is_reference = false; place = r.form };
      shown = plain_shown c.args.reader.now.tokens.now c.args.at _ r.form r.spans.shown;
      sized = omega (arith, r.spans.sized);
      reads = λ ready place is n o at. (target_plain {room = c.args.reader.now.room} ready place is c.if-sees_ampersand.ensures).same n o at
          ∙ expression_walk n c.args.reader.now.room (place false) o (rest c.args.reader.now.tokens.now c.args.at) (target_same ready place false c.args.reader.now.room is o ∙ at)
          ∙ ap (passed (λ f u. walk_behind n (place false) f o u)) r.reads;
      ahead = r.ahead;
      within = r.within;
      flat = c.in_ok-read.read.flat;
    }
