use Rattle.std.proofs.Common.{◌+◌, Some, None, refl, ap, arith}
use Rattle.std.proofs.lemmas.Result.{err_from_is_err_and}
use Rattle.php_grammar.specs.declaration.FunctionMachine.{method_form}
use Rattle.php_reader.specs.Seen.{rest}
use Rattle.php_parse_member.proofs.Routines.{block_reads, block_fails, body_lacks, semicolon_reads}
use Rattle.php_parse_member.proofs.methods.method_body.Goals as goal

pub returns-then-sees : goal.returns-then-sees
returns-then-sees c =
    let e = c.if-sees.ensures in
    record {
      form = None;
      shown = refl;
      sized = omega arith;
      reads = λ b x s n is. semicolon_reads n b method_form x s e.token _ _ refl e.stands.is e.role_is;
      within = omega (arith, e.stands.within);
    }

pub returns-then-not-sees : goal.returns-then-not-sees
returns-then-not-sees c =
    λ b x s. record {
      halts = record { same = λ n is. body_lacks method_form n b x s (rest c.args.reader.now.tokens.now c.args.at) c.if-not-sees.ensures c.if-sees.ensures };
      ahead = omega arith;
      within = c.requires.within;
    }

pub returns-in_err-block : goal.returns-in_err-block
returns-in_err-block c =
    let o = c.if-not-sees.ensures in
    let q = err_from_is_err_and c.from_residual.result c.from_residual.ensures.1 in
    rw (q.1, q.2) (λ b x s. block_fails method_form c.args.reader.now.room b x s o.token (rest c.args.reader.now.tokens.now c.args.at) c.args.reader.now.tokens.now c.args.at (c.args.at + 1) c.in_err-block.field-0.0 o.stands.is o.role_is (omega arith)
    c.in_err-block.ensures)

pub returns : goal.returns
returns c =
    let o = c.if-not-sees.ensures in
    let r = c.in_ok-block.ensures in
    record {
      form = Some r.statements;
      shown = ap Some r.shown;
      sized = omega (arith, r.sized);
      reads = λ b x s n is. block_reads method_form c.args.reader.now.room n b x s r.statements o.token (rest c.args.reader.now.tokens.now c.args.at) (rest c.args.reader.now.tokens.now (c.args.at + 1)) (rest c.args.reader.now.tokens.now _) o.stands.is o.role_is r.inside r.row is;
      within = r.within;
    }
