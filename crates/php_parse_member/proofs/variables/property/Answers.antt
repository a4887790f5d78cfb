use Rattle.std.proofs.Common.{◌+◌, ◌∙◌, Some, None, [], arith}
use Rattle.std.proofs.lemmas.Result.{err_from_is_err_and}
use Rattle.php_grammar.specs.expression.Machine.{expects}
use Rattle.php_grammar.specs.statement.Machine.{named_here}
use Rattle.php_grammar.specs.declaration.MemberMachine.{past_property, in_property}
use Rattle.php_reader.specs.Seen.{rest}
use Rattle.php_parse_member.proofs.Moves.{leads, later}
use Rattle.php_parse_member.proofs.Ends.{property_named, property_unnamed, property_assigned, property_bare}
use Rattle.php_parse_member.proofs.Values.{property_reads, property_fails}
use Rattle.php_parse_member.proofs.Lists.{property_shown, bare_shown}
use Rattle.php_parse_member.proofs.variables.property.Goals as goal

pub returns-in_default : goal.returns-in_default
returns-in_default c = λ ms items. record { halts = property_unnamed ms items (rw c.in_default.is at c.in_ok-name.ensures); ahead = omega arith; within = c.requires.within }

pub returns-then-not-sees : goal.returns-then-not-sees
returns-then-not-sees c =
    let s = rw c.in-Some.is at c.in_ok-name.ensures in
    record {
      form = record { name = named_here s.0; value = None };
      shown = bare_shown c.args.reader.now.tokens.now c.args.at _ (named_here s.0) s.2;
      sized = omega arith;
      reads = λ ms items n is. property_bare ms items (named_here s.0) c.if-not-sees.ensures (property_named ms items s.0 s.1.token _ s.1.stands.is s.1.role_is c.requires.deep) n is;
      ahead = omega arith;
      within = omega (arith, s.1.stands.within);
    }

pub returns-in_err-read : goal.returns-in_err-read
returns-in_err-read c =
    let s = rw c.in-Some.is at c.in_ok-name.ensures in
    let g = c.if-not-sees.ensures in
    let q = err_from_is_err_and c.from_residual-in_err-read.result c.from_residual-in_err-read.ensures.1 in
    rw (q.1, q.2) (λ ms items. later c.args.reader.now.tokens.now c.args.at (c.args.at + 1 + 1) (in_property ms items (named_here s.0) (expects [])) c.in_err-read.field-0.0 (omega arith)
    (leads (past_property ms items (named_here s.0)) (property_named ms items s.0 s.1.token _ s.1.stands.is s.1.role_is c.requires.deep) (property_assigned ms items (named_here s.0) g.token _ g.stands.is g.role_is c.requires.deep))
    (property_fails c.args.reader.now.room c.args.reader.now.tokens.now (c.args.at + 1 + 1) c.in_err-read.field-0.0 ms items (named_here s.0) c.in_err-read.ensures))

pub returns : goal.returns
returns c =
    let s = rw c.in-Some.is at c.in_ok-name.ensures in
    let g = c.if-not-sees.ensures in
    let r = c.in_ok-read.ensures in
    record {
      form = record { name = named_here s.0; value = Some r.form };
      shown = property_shown c.args.reader.now.tokens.now c.args.at _ _ (named_here s.0) r.form s.2 r.spans.shown;
      sized = omega (arith, r.spans.sized);
      reads = λ ms items n is.
          (leads (past_property ms items (named_here s.0)) (property_named ms items s.0 s.1.token _ s.1.stands.is s.1.role_is c.requires.deep) (property_assigned ms items (named_here s.0) g.token _ g.stands.is g.role_is c.requires.deep)).same n is
          ∙ property_reads c.args.reader.now.room n ms items (named_here s.0) r.form (rest c.args.reader.now.tokens.now (c.args.at + 1 + 1)) (rest c.args.reader.now.tokens.now _) r.reads is;
      ahead = omega (arith, r.ahead);
      within = r.within;
    }
