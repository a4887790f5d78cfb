use Rattle.std.proofs.Common.{◌+◌, refl, ap, arith}
use Rattle.std.proofs.lemmas.Result.{err_from_is_err_and}
use Rattle.php_ast.specs.expression.Placed.{notes_of}
use Rattle.php_ast.specs.statement.Tree.{empty, then_also, statics}
use Rattle.php_ast.specs.statement.View.{variable_view, sequence}
use Rattle.php_ast.specs.statement.Placed.{size_variable, noted_variable}
use Rattle.std.specs.List.{list_all}
use Rattle.php_flat.specs.Statements.{is_flat_variable}
use Rattle.php_grammar.specs.statement.Role.{at_statics}
use Rattle.php_grammar.specs.statement.Forms.{of_statics, due_name, past_static_word, done}
use Rattle.php_parse_simple.specs.NameAnswer.{variable_step}
use Rattle.php_parse_simple.proofs.Fails.{later}
use Rattle.php_flat.proofs.Lists.{all_with}
use Rattle.php_parse_simple.proofs.Moves.{leads, leads_halts}
use Rattle.php_parse_simple.proofs.Plain.{begins}
use Rattle.php_parse_simple.proofs.Named.{sequence_more, static_begins, variables_lead, variables_halt, statics_spans}
use Rattle.php_parse_simple.proofs.names.static_variables.Goals as goal

pub loop-variables-init : goal.loop-variables-init
loop-variables-init c =
    let h = c.requires.here in
    let a = c.requires.named in
    record {
      variables = empty;
      spans = record { shown_is = ap (sequence variable_view) c.new-variables.ensures; sized = omega arith };
      reads = leads (λ o. past_static_word o) (begins at_statics h.token h.stands.is h.role_is (λ o. refl) (λ o. refl) c.requires.some) (static_begins a.token a.stands.is a.role_is);
      within = omega (arith, h.stands.within);
      flat = ap (list_all is_flat_variable) c.new-variables.ensures;
    }

pub returns-in_err-entry : goal.returns-in_err-entry
returns-in_err-entry c =
    let v = c.loop-variables.invariant in
    let q = err_from_is_err_and c.from_residual.result c.from_residual.ensures.1 in
    rw (q.1, q.2) (later c.args.reader.now.tokens.now c.args.at c.loop-variables.next (λ o. due_name (of_statics v.variables) o) c.in_err-entry.field-0.0 (omega (arith, v.spans.sized)) v.reads (c.in_err-entry.ensures v.variables))

pub returns-then-ends : goal.returns-then-ends
returns-then-ends c =
    let v = c.loop-variables.invariant in
    let r = c.in_ok-entry.ensures in
    let e = c.if-ends.ensures.yes refl in
    let all = then_also v.variables r.variable in
    record {
      form = statics tt all;
      spans = statics_spans c.args.reader.now.tokens.now _ _ _ all c.args.at _ c.statics_statement.ensures.shown c.spot.ensures
          (sequence_more variable_view size_variable (noted_variable (notes_of c.args.reader.now.tokens.now)) (c.args.at + 1) c.loop-variables.next v.variables r.variable c.loop-variables.variables _ _ c.in_ok-push.ensures.ok v.spans r.shown) (omega (arith, v.spans.sized, r.sized));
      reads = leads (λ o. due_name (of_statics v.variables) o) v.reads
          (variables_lead v.variables r.variable e.token (λ o. done (statics tt all) o) c.requires.some (r.reads v.variables) e.stands.is (λ o. ap (variable_step v.variables r.variable o) e.role_is));
      ahead = omega (arith, v.spans.sized, r.ahead);
      within = omega (arith, e.stands.within);
    }

pub returns-then-not-ends : goal.returns-then-not-ends
returns-then-not-ends c =
    let v = c.loop-variables.invariant in
    let r = c.in_ok-entry.ensures in
    record {
      halts = leads_halts (λ o. due_name (of_statics v.variables) o) v.reads (variables_halt v.variables r.variable (r.reads v.variables) (c.if-not-ends.ensures.no refl) (c.if-ends.ensures.no refl));
      ahead = omega (arith, v.spans.sized, r.ahead);
      within = r.within;
    }

pub loop-variables-preserved : goal.loop-variables-preserved
loop-variables-preserved c =
    let v = c.loop-variables.invariant in
    let r = c.in_ok-entry.ensures in
    let e = c.if-not-ends.ensures.yes refl in
    let all = then_also v.variables r.variable in
    record {
      variables = all;
      spans = record {
        shown_is = sequence_more variable_view size_variable (noted_variable (notes_of c.args.reader.now.tokens.now)) (c.args.at + 1) c.loop-variables.next v.variables r.variable c.loop-variables.variables _ _ c.in_ok-push.ensures.ok v.spans r.shown;
        sized = omega (arith, v.spans.sized, r.sized);
      };
      reads = leads (λ o. due_name (of_statics v.variables) o) v.reads
          (variables_lead v.variables r.variable e.token (λ o. due_name (of_statics all) o) c.requires.some (r.reads v.variables) e.stands.is (λ o. ap (variable_step v.variables r.variable o) e.role_is));
      within = omega (arith, e.stands.within);
      flat = all_with is_flat_variable c.loop-variables.variables _ _ c.in_ok-push.ensures.ok v.flat r.flat;
    }

pub statics_statement-requires : goal.statics_statement-requires
statics_statement-requires c =
    let v = c.loop-variables.invariant in
    let r = c.in_ok-entry.ensures in
    all_with is_flat_variable c.loop-variables.variables _ _ c.in_ok-push.ensures.ok v.flat r.flat
