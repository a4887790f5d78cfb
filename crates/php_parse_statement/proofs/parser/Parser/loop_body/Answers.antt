use Rattle.std.proofs.Common.{◌+◌, ◌∙◌, [], ◌∷◌, refl, ap, arith}
use Rattle.php_ast.specs.statement.View.{statement_view}
use Rattle.std.proofs.lemmas.Result.{err_from_is_err_and}
use Rattle.php_ast.specs.statement.Tree.{no_statement, single, list_behind_colon}
use Rattle.php_flat.specs.Statements.{is_flat_statement}
use Rattle.php_grammar.specs.statement.Role.{fixed_semicolon}
use Rattle.php_grammar.specs.statement.Forms.{of_loop, loop_open, due_in_list, due_statement, done, looped}
use Rattle.php_grammar.specs.statement.Machine.{before_semicolon}
use Rattle.php_parse_simple.specs.RoleView.{after_view}
use Rattle.php_parse_simple.proofs.Fails.{later}
use Rattle.php_parse_simple.proofs.Moves.{leads, leads_halts, due_halts, due_outside}
use Rattle.php_parse_statement.proofs.Lists.{list_unended, list_outside}
use Rattle.php_parse_statement.proofs.Looping.{loop_enters, loop_colon, loop_ends, loop_word, loop_other, end_outside}
use Rattle.php_parse_statement.proofs.parser.Parser.loop_body.Goals as goal

pub returns-in_err-read : goal.returns-in_err-read
returns-in_err-read g c =
    let q = err_from_is_err_and c.from_residual.result c.from_residual.ensures.1 in
    rw (q.1, q.2) (λ loop h. later c.args.self.now.reader.tokens.now c.args.at c.args.at (λ o. due_statement (loop_open loop ∷ o)) c.in_err-read.field-0.0 (omega arith)
    (loop_enters loop c.if-not-sees.ensures) (c.in_err-read.ensures (loop_open loop) refl))

pub returns-in_err-list : goal.returns-in_err-list
returns-in_err-list g c =
    let s = c.if-not-sees.ensures in
    let q = err_from_is_err_and c.from_residual-in_err-list.result c.from_residual-in_err-list.ensures.1 in
    rw (q.1, q.2) (λ loop h. later c.args.self.now.reader.tokens.now c.args.at (c.args.at + 1) (λ o. due_in_list (of_loop loop) no_statement o) c.in_err-list.field-0.0 (omega arith)
    (loop_colon loop s.token s.stands.is s.role_is c.args.self.now.deep) (c.in_err-list.ensures (of_loop loop)))

pub returns-then-not-sees_after : goal.returns-then-not-sees_after
returns-then-not-sees_after g c =
    let s = c.if-not-sees.ensures in
    let f = c.in_ok-list.ensures in
    let v = f.so_far in
    rw c.forget.ensures (λ loop h. record {
      halts = leads_halts (λ o. due_in_list (of_loop loop) v.statements o) (leads (λ o. due_in_list (of_loop loop) no_statement o) (loop_colon loop s.token s.stands.is s.role_is c.args.self.now.deep) (v.reads (of_loop loop)))
          (list_unended (of_loop loop) v.statements f.ended (λ o. loop_other loop (after_view c.args.end) _ v.statements o h (c.if-not-sees_after.ensures.no refl)));
      ahead = omega (arith, v.sized);
      within = v.within;
    })

pub returns-then-not-sees-2 : goal.returns-then-not-sees-2
returns-then-not-sees-2 g c =
    let s = c.if-not-sees.ensures in
    let f = c.in_ok-list.ensures in
    let v = f.so_far in
    let e = c.if-not-sees_after.ensures.yes refl in
    rw c.forget-then-not-sees-2.ensures (λ loop h. record {
      halts = leads_halts (λ o. before_semicolon (looped loop (list_behind_colon v.statements)) o)
          (leads (λ o. due_in_list (of_loop loop) v.statements o)
          (leads (λ o. due_in_list (of_loop loop) no_statement o) (loop_colon loop s.token s.stands.is s.role_is c.args.self.now.deep) (v.reads (of_loop loop)))
          (list_outside (of_loop loop) v.statements e.token (after_view c.args.end) (λ o. before_semicolon (looped loop (list_behind_colon v.statements)) o) e.stands.is e.role_is (end_outside loop (after_view c.args.end) h)
          (λ o. loop_word loop (after_view c.args.end) v.statements o h) c.args.self.now.deep))
          (due_halts fixed_semicolon [] (λ o. done (looped loop (list_behind_colon v.statements)) o) c.if-not-sees-2.ensures);
      ahead = omega (arith, v.sized);
      within = omega (arith, e.stands.within);
    })

pub returns : goal.returns
returns g c =
    let s = c.if-not-sees.ensures in
    let f = c.in_ok-list.ensures in
    let v = f.so_far in
    let e = c.if-not-sees_after.ensures.yes refl in
    let m = c.if-not-sees-2.ensures in
    record {
      body = list_behind_colon v.statements;
      shown = ap list_behind_colon v.shown;
      sized = omega (arith, v.sized);
      reads = λ loop h. leads (λ o. before_semicolon (looped loop (list_behind_colon v.statements)) o)
          (leads (λ o. due_in_list (of_loop loop) v.statements o)
          (leads (λ o. due_in_list (of_loop loop) no_statement o) (loop_colon loop s.token s.stands.is s.role_is c.args.self.now.deep) (v.reads (of_loop loop)))
          (list_outside (of_loop loop) v.statements e.token (after_view c.args.end) (λ o. before_semicolon (looped loop (list_behind_colon v.statements)) o) e.stands.is e.role_is (end_outside loop (after_view c.args.end) h)
          (λ o. loop_word loop (after_view c.args.end) v.statements o h) c.args.self.now.deep))
          (due_outside fixed_semicolon [] (λ o. done (looped loop (list_behind_colon v.statements)) o) m.token m.stands.is m.role_is (λ o. refl) (λ d. refl) c.args.self.now.deep);
      ahead = omega (arith, v.sized);
      within = omega (arith, m.stands.within);
      flat = v.flat;
    }

pub returns-then-not-sees : goal.returns-then-not-sees
returns-then-not-sees g c =
    let r = c.in_ok-read.ensures in
    record {
      body = single r.form;
      shown = ap single (ap statement_view c.in_ok-new.ensures ∙ r.spans.shown);
      sized = r.spans.sized;
      reads = λ loop h. leads (λ o. due_statement (loop_open loop ∷ o)) (loop_enters loop c.if-not-sees.ensures) (leads (λ o. done r.form (loop_open loop ∷ o)) (r.reads (loop_open loop) refl) (loop_ends loop r.form));
      ahead = r.ahead;
      within = r.within;
      flat = ap is_flat_statement c.in_ok-new.ensures ∙ c.in_ok-read.read.flat;
    }
