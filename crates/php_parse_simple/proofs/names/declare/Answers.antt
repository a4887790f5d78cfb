use Rattle.std.proofs.Common.{[], ◌∷◌, refl, arith}
use Rattle.php_ast.specs.statement.Tree.{declares}
use Rattle.php_grammar.specs.statement.Role.{right_paren, fixed_semicolon}
use Rattle.php_grammar.specs.statement.Forms.{of_declare, due, due_int, past_name, done}
use Rattle.php_grammar.specs.statement.Machine.{before_semicolon, named_here}
use Rattle.php_parse_simple.proofs.Moves.{leads, leads_halts, due_halts, due_inside, due_outside}
use Rattle.php_parse_simple.proofs.Named.{declare_named, declare_assigned, int_reads, declare_spans}
use Rattle.php_parse_simple.proofs.names.declare.Goals as goal

pub returns-then-not-sees-3 : goal.returns-then-not-sees-3
returns-then-not-sees-3 c =
    let h = c.requires.here in
    let p = c.if-not-sees.ensures in
    let s = rw c.in-Some.is at c.in_ok-name.ensures in
    let a = c.if-not-sees-2.ensures in
    let i = c.in-Some-int_at.ensures in
    let made = declares tt (named_here s.0) c.in-Some-int_at.value.value in
    record {
      halts = leads_halts (λ o. due (right_paren ∷ []) (before_semicolon made o))
          (leads (λ o. due_int (named_here s.0) o)
          (leads (λ o. past_name of_declare (named_here s.0) o) (declare_named h.token p.token s.1.token s.0 h.stands.is h.role_is p.stands.is p.role_is s.1.stands.is s.1.role_is (omega (arith, c.requires.some)))
          (declare_assigned (named_here s.0) a.token a.stands.is a.role_is (omega (arith, c.requires.some))))
          (int_reads (named_here s.0) c.in-Some-int_at.value.value i.token i.stands.is i.role_is (omega (arith, c.requires.some))))
          (due_halts right_paren [] (λ o. before_semicolon made o) c.if-not-sees-3.ensures);
      ahead = omega arith;
      within = omega (arith, i.stands.within);
    }

pub returns-then-not-sees-4 : goal.returns-then-not-sees-4
returns-then-not-sees-4 c =
    let h = c.requires.here in
    let p = c.if-not-sees.ensures in
    let s = rw c.in-Some.is at c.in_ok-name.ensures in
    let a = c.if-not-sees-2.ensures in
    let i = c.in-Some-int_at.ensures in
    let e = c.if-not-sees-3.ensures in
    let made = declares tt (named_here s.0) c.in-Some-int_at.value.value in
    record {
      halts = leads_halts (λ o. due (fixed_semicolon ∷ []) (done made o))
          (leads (λ o. due (right_paren ∷ []) (before_semicolon made o))
          (leads (λ o. due_int (named_here s.0) o)
          (leads (λ o. past_name of_declare (named_here s.0) o) (declare_named h.token p.token s.1.token s.0 h.stands.is h.role_is p.stands.is p.role_is s.1.stands.is s.1.role_is (omega (arith, c.requires.some)))
          (declare_assigned (named_here s.0) a.token a.stands.is a.role_is (omega (arith, c.requires.some))))
          (int_reads (named_here s.0) c.in-Some-int_at.value.value i.token i.stands.is i.role_is (omega (arith, c.requires.some))))
          (due_inside right_paren [] (λ o. before_semicolon made o) e.token e.stands.is e.role_is (λ o. refl) (omega (arith, c.requires.some))))
          (due_halts fixed_semicolon [] (λ o. done made o) c.if-not-sees-4.ensures);
      ahead = omega arith;
      within = omega (arith, e.stands.within);
    }

pub returns : goal.returns
returns c =
    let h = c.requires.here in
    let p = c.if-not-sees.ensures in
    let s = rw c.in-Some.is at c.in_ok-name.ensures in
    let a = c.if-not-sees-2.ensures in
    let i = c.in-Some-int_at.ensures in
    let e = c.if-not-sees-3.ensures in
    let f = c.if-not-sees-4.ensures in
    let made = declares tt (named_here s.0) c.in-Some-int_at.value.value in
    record {
      form = made;
      spans = declare_spans c.args.reader.now.tokens.now _ _ _ (named_here s.0) c.in-Some-int_at.value.value c.args.at c.declare_statement.ensures.shown c.spot.ensures s.2;
      reads = leads (λ o. due (fixed_semicolon ∷ []) (done made o))
          (leads (λ o. due (right_paren ∷ []) (before_semicolon made o))
          (leads (λ o. due_int (named_here s.0) o)
          (leads (λ o. past_name of_declare (named_here s.0) o) (declare_named h.token p.token s.1.token s.0 h.stands.is h.role_is p.stands.is p.role_is s.1.stands.is s.1.role_is (omega (arith, c.requires.some)))
          (declare_assigned (named_here s.0) a.token a.stands.is a.role_is (omega (arith, c.requires.some))))
          (int_reads (named_here s.0) c.in-Some-int_at.value.value i.token i.stands.is i.role_is (omega (arith, c.requires.some))))
          (due_inside right_paren [] (λ o. before_semicolon made o) e.token e.stands.is e.role_is (λ o. refl) (omega (arith, c.requires.some))))
          (due_outside fixed_semicolon [] (λ o. done made o) f.token f.stands.is f.role_is (λ o. refl) (λ d. refl) c.requires.some);
      ahead = omega arith;
      within = omega (arith, f.stands.within);
    }
