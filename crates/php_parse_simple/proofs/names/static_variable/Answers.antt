use Rattle.std.proofs.Common.{◌+◌, ◌∙◌, Some, None, refl, ap, arith}
use Rattle.std.proofs.lemmas.Result.{err_from_is_err_and}
use Rattle.php_grammar.specs.statement.Forms.{as_static, of_statics}
use Rattle.php_grammar.specs.statement.Machine.{expected, named_here}
use Rattle.php_reader.specs.Seen.{rest}
use Rattle.php_parse_simple.specs.Walk.{walk_behind}
use Rattle.php_parse_simple.proofs.Bridge.{passed}
use Rattle.php_parse_simple.proofs.Fails.{later, failed}
use Rattle.php_parse_simple.proofs.Inside.{expression_walk}
use Rattle.php_parse_simple.proofs.Named.{name_reads, variable_of, variable_opens, variable_shown, bare_shown, bare_variable, valued_variable}
use Rattle.php_parse_simple.proofs.names.static_variable.Goals as goal

pub returns-then-not-sees : goal.returns-then-not-sees
returns-then-not-sees c =
    let s = rw c.in-Some.is at c.in_ok-name.ensures in
    record {
      variable = variable_of (named_here s.0) None;
      shown = bare_shown c.args.reader.now.tokens.now c.args.at _ (named_here s.0) s.2;
      sized = omega arith;
      reads = λ xs n o is. (name_reads (of_statics xs) s.0 s.1.token s.1.stands.is s.1.role_is (λ d. omega (arith, c.requires.some))).same n o is
          ∙ bare_variable n xs (named_here s.0) o (rest c.args.reader.now.tokens.now (c.args.at + 1)) c.if-not-sees.ensures;
      ahead = omega arith;
      within = omega (arith, s.1.stands.within);
      flat = refl;
    }

pub returns-in_err-read : goal.returns-in_err-read
returns-in_err-read c =
    let s = rw c.in-Some.is at c.in_ok-name.ensures in
    let g = c.if-not-sees.ensures in
    let q = err_from_is_err_and c.from_residual-in_err-read.result c.from_residual-in_err-read.ensures.1 in
    rw (q.1, q.2) (λ xs. later c.args.reader.now.tokens.now c.args.at (c.args.at + 1 + 1) (λ o. expected (as_static xs (named_here s.0)) o) c.in_err-read.field-0.0 (omega arith)
    (variable_opens xs s.0 s.1.token g.token s.1.stands.is s.1.role_is g.stands.is g.role_is c.requires.some)
    (failed _ _ (as_static xs (named_here s.0)) c.args.reader.now.room c.args.reader.now.tokens.now (c.args.at + 1 + 1) c.in_err-read.field-0.0 (λ o. refl) c.in_err-read.ensures))

pub returns : goal.returns
returns c =
    let s = rw c.in-Some.is at c.in_ok-name.ensures in
    let g = c.if-not-sees.ensures in
    let r = c.in_ok-read.ensures in
    record {
      variable = variable_of (named_here s.0) (Some r.form);
      shown = variable_shown c.args.reader.now.tokens.now c.args.at _ _ (named_here s.0) r.form s.2 r.spans.shown;
      sized = omega (arith, r.spans.sized);
      reads = λ xs n o is. (variable_opens xs s.0 s.1.token g.token s.1.stands.is s.1.role_is g.stands.is g.role_is c.requires.some).same n o is
          ∙ expression_walk n c.args.reader.now.room (as_static xs (named_here s.0)) o (rest c.args.reader.now.tokens.now (c.args.at + 1 + 1)) is
          ∙ ap (passed (λ f u. walk_behind n (as_static xs (named_here s.0)) f o u)) r.reads
          ∙ valued_variable n xs (named_here s.0) r.form o (rest c.args.reader.now.tokens.now _);
      ahead = omega (arith, r.ahead);
      within = r.within;
      flat = c.in_ok-read.read.flat;
    }
