use Rattle.std.proofs.Common.{◌+◌, ◌∙◌, Some, arith}
use Rattle.std.proofs.lemmas.Result.{err_from_is_err_and}
use Rattle.php_grammar.specs.declaration.FunctionMachine.{function_form, routine}
use Rattle.php_reader.specs.Seen.{rest}
use Rattle.php_parse_member.proofs.Routines.{block_reads, block_fails, function_lacks, body_fails}
use Rattle.php_parse_member.proofs.Shown.{function_shown}
use Rattle.php_parse_member.proofs.functions.read_function.Goals as goal

pub returns-then-not-sees : goal.returns-then-not-sees
returns-then-not-sees c =
    let h = c.in_ok-head.ensures in
    record {
      halts = record { same = λ n is. h.reads n is ∙ function_lacks n c.in_ok-head.head.is_reference h.name h.signature (rest c.args.reader.now.tokens.now c.in_ok-head.head.next) c.if-not-sees.ensures };
      ahead = omega (arith, h.sized);
      within = h.within;
    }

pub returns-in_err-block : goal.returns-in_err-block
returns-in_err-block c =
    let h = c.in_ok-head.ensures in
    let b = c.if-not-sees.ensures in
    let q = err_from_is_err_and c.from_residual-in_err-block.result c.from_residual-in_err-block.ensures.1 in
    rw (q.1, q.2) (body_fails function_form c.args.reader.now.room c.in_ok-head.head.is_reference h.name h.signature (rest c.args.reader.now.tokens.now (c.args.at + 1)) (rest c.args.reader.now.tokens.now c.in_ok-head.head.next)
    c.args.reader.now.tokens.now (c.args.at + 1) c.in_ok-head.head.next c.in_err-block.field-0.0 (omega (arith, h.sized)) h.reads
    (block_fails function_form c.args.reader.now.room c.in_ok-head.head.is_reference h.name h.signature b.token (rest c.args.reader.now.tokens.now c.in_ok-head.head.next) c.args.reader.now.tokens.now c.in_ok-head.head.next (c.in_ok-head.head.next + 1)
    c.in_err-block.field-0.0 b.stands.is b.role_is (omega arith) c.in_err-block.ensures))

pub returns : goal.returns
returns c =
    let h = c.in_ok-head.ensures in
    let b = c.if-not-sees.ensures in
    let r = c.in_ok-block.ensures in
    record {
      form = routine c.in_ok-head.head.is_reference h.name h.signature (Some r.statements);
      shown = function_shown c.args.reader.now.tokens.now c.args.at _ _ _ _ _ h.name h.signature r.statements _ c.function_decl.ensures.shown c.spot.ensures h.named h.signed _ r.shown (omega (arith, h.sized));
      sized = omega (arith, h.sized, r.sized);
      comes = λ n is. h.reads n is ∙ block_reads function_form c.args.reader.now.room n c.in_ok-head.head.is_reference h.name h.signature r.statements b.token (rest c.args.reader.now.tokens.now c.in_ok-head.head.next)
          (rest c.args.reader.now.tokens.now (c.in_ok-head.head.next + 1)) (rest c.args.reader.now.tokens.now _) b.stands.is b.role_is r.inside r.row is;
      ahead = omega (arith, h.sized, r.sized);
      within = r.within;
    }
