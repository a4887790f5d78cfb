use Rattle.std.proofs.Common.{◌+◌, ◌∙◌, [], ◌∷◌, refl, ap, arith}
use Rattle.php_ast.specs.expression.Placed.{notes_of}
use Rattle.php_ast.specs.statement.Tree.{empty, then_also, no_statement}
use Rattle.php_ast.specs.statement.View.{name_view, sequence}
use Rattle.php_ast.specs.statement.Placed.{size_name, noted_name}
use Rattle.php_grammar.specs.statement.Role.{left_paren, right_paren, left_brace}
use Rattle.php_grammar.specs.statement.Forms.{of_classes, of_catch, due, due_in_list, due_name, past_name}
use Rattle.php_grammar.specs.statement.Machine.{named_here}
use Rattle.php_parse_simple.proofs.Moves.{leads, leads_halts, due_halts, due_inside, due_outside}
use Rattle.php_parse_simple.proofs.Named.{sequence_more, name_reads, name_halts}
use Rattle.php_parse_simple.proofs.Classes.{class_sinks, class_more, class_variable, class_halts}
use Rattle.php_parse_simple.proofs.catches.caught.Goals as goal

pub returns-then-not-sees : goal.returns-then-not-sees
returns-then-not-sees c = λ body catches. record { halts = due_halts left_paren [] (λ o. due_name (of_classes body catches empty) o) c.if-not-sees.ensures; ahead = omega arith; within = c.requires.within }

pub loop-classes-init : goal.loop-classes-init
loop-classes-init c =
    let s = c.if-not-sees.ensures in
    record {
      classes = empty;
      spans = record { shown_is = ap (sequence name_view) c.new-classes.ensures; sized = omega arith };
      reads = λ body catches. due_outside left_paren [] (λ o. due_name (of_classes body catches empty) o) s.token s.stands.is s.role_is (λ o. refl) (λ d. refl) c.requires.some;
      within = omega (arith, s.stands.within);
    }

pub returns-in_default : goal.returns-in_default
returns-in_default c =
    let v = c.loop-classes.invariant in
    let s = rw c.in_default.is at c.in_ok-class.ensures in
    λ body catches. record {
      halts = leads_halts (λ o. due_name (of_classes body catches v.classes) o) (v.reads body catches) (name_halts (of_classes body catches v.classes) s);
      ahead = omega (arith, v.spans.sized);
      within = v.within;
    }

pub returns-then-reader-eq1 : goal.returns-then-reader-eq1
returns-then-reader-eq1 c =
    let v = c.loop-classes.invariant in
    let s = rw c.in-Some.is at c.in_ok-class.ensures in
    λ body catches. record {
      halts = leads_halts (λ o. due_name (of_classes body catches v.classes) o) (v.reads body catches) (class_sinks body catches v.classes s.0 s.1.token s.1.stands.is s.1.role_is c.if-reader-eq1.true);
      ahead = omega (arith, v.spans.sized);
      within = v.within;
    }

pub returns-then-not-sees-2 : goal.returns-then-not-sees-2
returns-then-not-sees-2 c =
    let v = c.loop-classes.invariant in
    let s = rw c.in-Some.is at c.in_ok-class.ensures in
    let w = rw c.in-Some-2.is at c.in_ok-variable.ensures in
    λ body catches. record {
      halts = leads_halts (λ o. due (right_paren ∷ left_brace ∷ []) (due_in_list (of_catch body catches (then_also v.classes (named_here s.0)) (named_here w.0)) no_statement o))
          (leads (λ o. past_name (of_classes body catches v.classes) (named_here s.0) o)
          (leads (λ o. due_name (of_classes body catches v.classes) o) (v.reads body catches)
          (name_reads (of_classes body catches v.classes) s.0 s.1.token s.1.stands.is s.1.role_is (λ d. omega (arith, c.requires.some, c.if-reader-eq1.false))))
          (class_variable body catches v.classes (named_here s.0) w.0 w.1.token w.1.stands.is w.1.role_is (omega (arith, c.requires.some, c.if-reader-eq1.false))))
          (due_halts right_paren (left_brace ∷ []) (λ o. due_in_list (of_catch body catches (then_also v.classes (named_here s.0)) (named_here w.0)) no_statement o) c.if-not-sees-2.ensures);
      ahead = omega (arith, v.spans.sized);
      within = omega (arith, w.1.stands.within);
    }

pub returns-in-Some-2 : goal.returns-in-Some-2
returns-in-Some-2 c =
    let v = c.loop-classes.invariant in
    let s = rw c.in-Some.is at c.in_ok-class.ensures in
    let w = rw c.in-Some-2.is at c.in_ok-variable.ensures in
    let e = c.if-not-sees-2.ensures in
    record {
      classes = then_also v.classes (named_here s.0);
      variable = named_here w.0;
      classes_shown = sequence_more name_view size_name (noted_name (notes_of c.args.reader.now.tokens.now)) (c.args.at + 1) c.loop-classes.next v.classes (named_here s.0) c.loop-classes.classes _ _ c.in_ok-push.ensures.ok v.spans s.2;
      variable_shown = w.2 ∙ ap (λ k. noted_name (notes_of c.args.reader.now.tokens.now) k (named_here w.0)) (omega (arith, v.spans.sized));
      sized = omega (arith, v.spans.sized);
      reads = λ body catches. leads (λ o. due (right_paren ∷ left_brace ∷ []) (due_in_list (of_catch body catches (then_also v.classes (named_here s.0)) (named_here w.0)) no_statement o))
          (leads (λ o. past_name (of_classes body catches v.classes) (named_here s.0) o)
          (leads (λ o. due_name (of_classes body catches v.classes) o) (v.reads body catches)
          (name_reads (of_classes body catches v.classes) s.0 s.1.token s.1.stands.is s.1.role_is (λ d. omega (arith, c.requires.some, c.if-reader-eq1.false))))
          (class_variable body catches v.classes (named_here s.0) w.0 w.1.token w.1.stands.is w.1.role_is (omega (arith, c.requires.some, c.if-reader-eq1.false))))
          (due_inside right_paren (left_brace ∷ []) (λ o. due_in_list (of_catch body catches (then_also v.classes (named_here s.0)) (named_here w.0)) no_statement o) e.token e.stands.is e.role_is (λ o. refl) (omega (arith, c.requires.some, c.if-reader-eq1.false)));
      ahead = omega (arith, v.spans.sized);
      within = omega (arith, e.stands.within);
    }

pub returns-then-not-sees_bar : goal.returns-then-not-sees_bar
returns-then-not-sees_bar c =
    let v = c.loop-classes.invariant in
    let s = rw c.in-Some.is at c.in_ok-class.ensures in
    let u = rw c.in_default-2.is at c.in_ok-variable.ensures in
    λ body catches. record {
      halts = leads_halts (λ o. past_name (of_classes body catches v.classes) (named_here s.0) o)
          (leads (λ o. due_name (of_classes body catches v.classes) o) (v.reads body catches)
          (name_reads (of_classes body catches v.classes) s.0 s.1.token s.1.stands.is s.1.role_is (λ d. omega (arith, c.requires.some, c.if-reader-eq1.false))))
          (class_halts body catches v.classes (named_here s.0) u c.if-not-sees_bar.ensures);
      ahead = omega (arith, v.spans.sized);
      within = omega (arith, s.1.stands.within);
    }

pub loop-classes-preserved : goal.loop-classes-preserved
loop-classes-preserved c =
    let v = c.loop-classes.invariant in
    let s = rw c.in-Some.is at c.in_ok-class.ensures in
    let e = c.if-not-sees_bar.ensures in
    record {
      classes = then_also v.classes (named_here s.0);
      spans = record {
        shown_is = sequence_more name_view size_name (noted_name (notes_of c.args.reader.now.tokens.now)) (c.args.at + 1) c.loop-classes.next v.classes (named_here s.0) c.loop-classes.classes _ _ c.in_ok-push.ensures.ok v.spans s.2;
        sized = omega (arith, v.spans.sized);
      };
      reads = λ body catches. leads (λ o. past_name (of_classes body catches v.classes) (named_here s.0) o)
          (leads (λ o. due_name (of_classes body catches v.classes) o) (v.reads body catches)
          (name_reads (of_classes body catches v.classes) s.0 s.1.token s.1.stands.is s.1.role_is (λ d. omega (arith, c.requires.some, c.if-reader-eq1.false))))
          (class_more body catches v.classes (named_here s.0) e.token e.stands.is e.role_is (omega (arith, c.requires.some, c.if-reader-eq1.false)));
      within = omega (arith, e.stands.within);
    }
