use Rattle.std.proofs.Common.{◌∙◌, ◌∷◌, Some, None, refl, ap, arith}
use Rattle.std.proofs.lemmas.Result.{err_from_is_err_and}
use Rattle.php_ast.specs.statement.Tree.{no_elseif}
use Rattle.php_ast.specs.statement.View.{statement_view}
use Rattle.php_grammar.specs.statement.Forms.{if_open, else_open, due_statement, done}
use Rattle.php_flat.specs.Statements.{is_flat_statement}
use Rattle.php_parse_statement.specs.FormAnswer.{behind_parts}
use Rattle.php_parse_simple.proofs.Fails.{later}
use Rattle.php_parse_simple.proofs.Moves.{leads}
use Rattle.php_parse_statement.proofs.Looping.{parts_end, parts_else, else_ends, parts_shift, last_shown}
use Rattle.php_parse_statement.proofs.parser.Parser.branches.Goals as goal

pub returns-in_err-first : goal.returns-in_err-first
returns-in_err-first g c =
    let q = err_from_is_err_and c.from_residual.result c.from_residual.ensures.1 in
    rw (q.1, q.2) (λ e. c.in_err-first.ensures (if_open e) refl)

pub returns-in_err-parts : goal.returns-in_err-parts
returns-in_err-parts g c =
    let b = c.in_ok-first.ensures in
    let q = err_from_is_err_and c.from_residual-in_err-parts.result c.from_residual-in_err-parts.ensures.1 in
    rw (q.1, q.2) (λ e. later c.args.self.now.reader.tokens.now c.args.at _ (λ o. behind_parts e b.form no_elseif o) c.in_err-parts.field-0.0 (omega (arith, b.ahead)) (b.reads (if_open e) refl) (c.in_err-parts.ensures e b.form))

pub returns-then-not-sees_after : goal.returns-then-not-sees_after
returns-then-not-sees_after g c =
    let b = c.in_ok-first.ensures in
    let p = c.in_ok-parts.ensures in
    let v = p.so_far in
    record {
      body = b.form;
      parts = v.parts;
      last = None;
      body_shown = ap statement_view c.in_ok-body.ensures ∙ b.spans.shown;
      parts_shown = parts_shift c.args.self.now.reader.tokens.now _ v.parts _ (c.args.at) b.form v.shown b.spans.sized;
      last_shown = refl;
      sized = omega (arith, b.spans.sized, v.sized);
      reads = λ e. leads (λ o. behind_parts e b.form no_elseif o) (b.reads (if_open e) refl) (leads (λ o. behind_parts e b.form v.parts o) (v.reads e b.form) (parts_end e b.form v.parts (c.if-not-sees_after.ensures.no refl) p.over));
      ahead = omega (arith, b.ahead, v.sized);
      within = v.within;
      flat_body = ap is_flat_statement c.in_ok-body.ensures ∙ c.in_ok-first.first.flat;
      flat_parts = v.flat;
      flat_last = refl;
    }

pub returns-in_err-last : goal.returns-in_err-last
returns-in_err-last g c =
    let b = c.in_ok-first.ensures in
    let p = c.in_ok-parts.ensures in
    let v = p.so_far in
    let w = c.if-not-sees_after.ensures.yes refl in
    let q = err_from_is_err_and c.from_residual-in_err-last.result c.from_residual-in_err-last.ensures.1 in
    rw (q.1, q.2) (λ e. later c.args.self.now.reader.tokens.now c.args.at _ (λ o. due_statement (else_open e b.form v.parts ∷ o)) c.in_err-last.field-0.0 (omega (arith, b.ahead, v.sized))
    (leads (λ o. behind_parts e b.form v.parts o) (leads (λ o. behind_parts e b.form no_elseif o) (b.reads (if_open e) refl) (v.reads e b.form)) (parts_else e b.form v.parts w.token w.stands.is w.role_is c.args.self.now.deep))
    (c.in_err-last.ensures (else_open e b.form v.parts) refl))

pub returns : goal.returns
returns g c =
    let b = c.in_ok-first.ensures in
    let p = c.in_ok-parts.ensures in
    let v = p.so_far in
    let w = c.if-not-sees_after.ensures.yes refl in
    let l = c.in_ok-last.ensures in
    record {
      body = b.form;
      parts = v.parts;
      last = Some l.form;
      body_shown = ap statement_view c.body-2.view_is ∙ ap statement_view c.in_ok-body.ensures ∙ b.spans.shown;
      parts_shown = parts_shift c.args.self.now.reader.tokens.now _ v.parts _ (c.args.at) b.form v.shown b.spans.sized;
      last_shown = ap Some (ap statement_view c.in_ok-new.ensures ∙ last_shown c.args.self.now.reader.tokens.now _ _ _ c.args.at b.form v.parts l.form b.spans.sized v.sized l.spans.shown);
      sized = omega (arith, b.spans.sized, v.sized, l.spans.sized);
      reads = λ e. leads (λ o. due_statement (else_open e b.form v.parts ∷ o))
          (leads (λ o. behind_parts e b.form v.parts o) (leads (λ o. behind_parts e b.form no_elseif o) (b.reads (if_open e) refl) (v.reads e b.form)) (parts_else e b.form v.parts w.token w.stands.is w.role_is c.args.self.now.deep))
          (leads (λ o. done l.form (else_open e b.form v.parts ∷ o)) (l.reads (else_open e b.form v.parts) refl) (else_ends e b.form v.parts l.form));
      ahead = omega (arith, b.ahead, v.sized, l.ahead);
      within = l.within;
      flat_body = ap is_flat_statement c.body-2.view_is ∙ ap is_flat_statement c.in_ok-body.ensures ∙ c.in_ok-first.first.flat;
      flat_parts = v.flat;
      flat_last = ap is_flat_statement c.in_ok-new.ensures ∙ c.in_ok-last.last.flat;
    }
