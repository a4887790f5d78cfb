use Rattle.std.proofs.Common.{◌+◌, refl, ap, arith}
use Rattle.php_ast.specs.expression.Placed.{notes_of}
use Rattle.php_ast.specs.statement.Tree.{empty, then_also, globals}
use Rattle.php_ast.specs.statement.View.{name_view, sequence}
use Rattle.php_ast.specs.statement.Placed.{size_name, noted_name}
use Rattle.php_grammar.specs.statement.Role.{at_globals}
use Rattle.php_grammar.specs.statement.Forms.{of_globals, due_name, past_name}
use Rattle.php_grammar.specs.statement.Machine.{named_here}
use Rattle.php_parse_simple.proofs.Moves.{leads}
use Rattle.php_parse_simple.proofs.Plain.{begins}
use Rattle.php_parse_simple.proofs.Named.{sequence_more, name_reads, globals_on, globals_end, globals_spans}
use Rattle.php_parse_simple.proofs.names.globals.Goals as goal

pub loop-names-init : goal.loop-names-init
loop-names-init c =
    let h = c.requires.here in
    record {
      names = empty;
      spans = record { shown_is = ap (sequence name_view) c.new-names.ensures; sized = omega arith };
      reads = begins at_globals h.token h.stands.is h.role_is (λ o. refl) (λ o. refl) c.requires.some;
      within = omega (arith, h.stands.within);
    }

pub returns-then-ends : goal.returns-then-ends
returns-then-ends c =
    let v = c.loop-names.invariant in
    let s = rw c.in-Some.is at c.in_ok-name.ensures in
    let e = c.if-ends.ensures.yes refl in
    let all = then_also v.names (named_here s.0) in
    record {
      form = globals tt all;
      spans = globals_spans c.args.reader.now.tokens.now _ _ _ all c.args.at _ c.globals_statement.ensures.shown c.spot.ensures
          (sequence_more name_view size_name (noted_name (notes_of c.args.reader.now.tokens.now)) (c.args.at + 1) c.loop-names.next v.names (named_here s.0) c.loop-names.names _ _ c.in_ok-push.ensures.ok v.spans s.2) (omega (arith, v.spans.sized));
      reads = leads (λ o. due_name (of_globals v.names) o) v.reads (leads (λ o. past_name (of_globals v.names) (named_here s.0) o) (name_reads (of_globals v.names) s.0 s.1.token s.1.stands.is s.1.role_is (λ d. omega (arith, c.requires.some)))
          (globals_end v.names (named_here s.0) e.token e.stands.is e.role_is c.requires.some));
      ahead = omega (arith, v.spans.sized);
      within = omega (arith, e.stands.within);
    }

pub loop-names-preserved : goal.loop-names-preserved
loop-names-preserved c =
    let v = c.loop-names.invariant in
    let s = rw c.in-Some.is at c.in_ok-name.ensures in
    let e = c.if-not-ends.ensures.yes refl in
    let all = then_also v.names (named_here s.0) in
    record {
      names = all;
      spans = record {
        shown_is = sequence_more name_view size_name (noted_name (notes_of c.args.reader.now.tokens.now)) (c.args.at + 1) c.loop-names.next v.names (named_here s.0) c.loop-names.names _ _ c.in_ok-push.ensures.ok v.spans s.2;
        sized = omega (arith, v.spans.sized);
      };
      reads = leads (λ o. due_name (of_globals v.names) o) v.reads (leads (λ o. past_name (of_globals v.names) (named_here s.0) o) (name_reads (of_globals v.names) s.0 s.1.token s.1.stands.is s.1.role_is (λ d. omega (arith, c.requires.some)))
          (globals_on v.names (named_here s.0) e.token e.stands.is e.role_is c.requires.some));
      within = omega (arith, e.stands.within);
    }
