use Rattle.std.proofs.Common.{refl, ap, arith}
use Rattle.php_ast.specs.expression.Placed.{notes_of}
use Rattle.php_ast.specs.statement.Tree.{empty, then_also}
use Rattle.php_ast.specs.statement.View.{name_view, sequence}
use Rattle.php_ast.specs.statement.Placed.{size_name, noted_name}
use Rattle.php_grammar.specs.statement.Machine.{named_here}
use Rattle.php_grammar.specs.declaration.MemberMachine.{due_trait, past_trait}
use Rattle.php_parse_simple.proofs.Named.{sequence_more}
use Rattle.php_parse_member.proofs.Moves.{leads, leads_halts}
use Rattle.php_parse_member.proofs.Ends.{name_reads, name_lacks, name_comma}
use Rattle.php_parse_member.proofs.names.names_at.Goals as goal

pub loop-names-init : goal.loop-names-init
loop-names-init c = record {
  names = empty;
  spans = record { shown_is = ap (sequence name_view) c.new-names.ensures; sized = omega arith };
  reads = λ list low. record { same = λ n is. refl };
  ahead = omega arith;
  within = c.requires.within;
}

pub returns-in_default : goal.returns-in_default
returns-in_default c =
    let v = c.loop-names.invariant in
    λ list low. record {
      halts = leads_halts (due_trait list v.names) (v.reads list low) (name_lacks list v.names (rw c.in_default.is at c.in_ok-name.ensures));
      ahead = v.ahead;
      within = v.within;
    }

pub returns-then-not-ends : goal.returns-then-not-ends
returns-then-not-ends c =
    let v = c.loop-names.invariant in
    let s = rw c.in-Some.is at c.in_ok-name.ensures in
    record {
      names = then_also v.names (named_here s.0);
      shown = sequence_more name_view size_name (noted_name (notes_of c.args.reader.now.tokens.now)) c.args.at c.loop-names.next v.names (named_here s.0) c.loop-names.names _ _ c.in_ok-push.ensures.ok v.spans s.2;
      sized = omega (arith, v.spans.sized);
      reads = λ list low. leads (due_trait list v.names) (v.reads list low) (name_reads list v.names s.0 s.1.token _ s.1.stands.is s.1.role_is low);
      no_comma = c.if-not-ends.ensures.no refl;
      ahead = omega (arith, v.ahead);
      within = omega (arith, s.1.stands.within);
    }

pub loop-names-preserved : goal.loop-names-preserved
loop-names-preserved c =
    let v = c.loop-names.invariant in
    let s = rw c.in-Some.is at c.in_ok-name.ensures in
    let e = c.if-not-ends.ensures.yes refl in
    record {
      names = then_also v.names (named_here s.0);
      spans = record {
        shown_is = sequence_more name_view size_name (noted_name (notes_of c.args.reader.now.tokens.now)) c.args.at c.loop-names.next v.names (named_here s.0) c.loop-names.names _ _ c.in_ok-push.ensures.ok v.spans s.2;
        sized = omega (arith, v.spans.sized);
      };
      reads = λ list low. leads (due_trait list v.names) (v.reads list low)
          (leads (past_trait list (then_also v.names (named_here s.0))) (name_reads list v.names s.0 s.1.token _ s.1.stands.is s.1.role_is low) (name_comma list (then_also v.names (named_here s.0)) e.token _ e.stands.is e.role_is low));
      ahead = omega (arith, v.ahead);
      within = omega (arith, e.stands.within);
    }
