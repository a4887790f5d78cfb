use Rattle.std.proofs.Common.{◌+◌, ◌∙◌, ◌∷◌, map, refl, ap, arith}
use Rattle.std.proofs.lemmas.Result.{err_from_is_err_and}
use Rattle.php_ast.specs.statement.Tree.{no_elseif, and_elseif}
use Rattle.php_ast.specs.statement.View.{elseifs_from, statement_view}
use Rattle.php_grammar.specs.statement.Forms.{elseif_head, elseif_open, due_statement}
use Rattle.std.specs.List.{list_all}
use Rattle.php_flat.specs.Statements.{is_flat_statement, is_flat_elseif}
use Rattle.php_parse_statement.proofs.Flats.{elseifs_flat}
use Rattle.php_grammar.specs.statement.Machine.{headed}
use Rattle.php_parse_statement.specs.FormAnswer.{behind_parts}
use Rattle.php_parse_simple.specs.Parts.{elseif_parts}
use Rattle.php_parse_simple.proofs.Fails.{later}
use Rattle.php_parse_simple.proofs.Moves.{leads}
use Rattle.php_parse_statement.proofs.Looping.{parts_elseif, elseifs_more}
use Rattle.php_parse_statement.proofs.parser.Parser.elseifs.Goals as goal

pub loop-items-init : goal.loop-items-init
loop-items-init g c = record {
  parts = no_elseif;
  shown = ap (λ l. elseifs_from no_elseif (map elseif_parts l)) c.new-items.ensures;
  sized = omega arith;
  reads = λ e body. record { same = λ n o is. refl };
  within = c.requires;
  flat = ap (list_all is_flat_elseif) c.new-items.ensures;
}

pub returns-then-not-sees_after : goal.returns-then-not-sees_after
returns-then-not-sees_after g c = record { so_far = c.loop-items.invariant; over = c.if-not-sees_after.ensures.no refl }

pub returns-in_err-head : goal.returns-in_err-head
returns-in_err-head g c =
    let v = c.loop-items.invariant in
    let w = c.if-not-sees_after.ensures.yes refl in
    let q = err_from_is_err_and c.from_residual.result c.from_residual.ensures.1 in
    rw (q.1, q.2) (λ e body. later c.args.self.now.reader.tokens.now c.args.at (c.loop-items.next + 1) (λ o. headed (elseif_head e body v.parts) o) c.in_err-head.field-0.0 (omega (arith, v.sized))
    (leads (λ o. behind_parts e body v.parts o) (v.reads e body) (parts_elseif e body v.parts w.token w.stands.is w.role_is c.args.self.now.deep)) (c.in_err-head.ensures (elseif_head e body v.parts)))

pub returns-in_err-read : goal.returns-in_err-read
returns-in_err-read g c =
    let v = c.loop-items.invariant in
    let w = c.if-not-sees_after.ensures.yes refl in
    let t = c.in_ok-head.ensures in
    let q = err_from_is_err_and c.from_residual-in_err-read.result c.from_residual-in_err-read.ensures.1 in
    rw (q.1, q.2) (λ e body. later c.args.self.now.reader.tokens.now c.args.at _ (λ o. due_statement (elseif_open e body v.parts t.form ∷ o)) c.in_err-read.field-0.0 (omega (arith, v.sized, t.ahead))
    (leads (λ o. headed (elseif_head e body v.parts) o)
    (leads (λ o. behind_parts e body v.parts o) (v.reads e body) (parts_elseif e body v.parts w.token w.stands.is w.role_is c.args.self.now.deep))
    (t.reads (elseif_head e body v.parts)))
    (c.in_err-read.ensures (elseif_open e body v.parts t.form) refl))

pub loop-items-preserved : goal.loop-items-preserved
loop-items-preserved g c =
    let v = c.loop-items.invariant in
    let w = c.if-not-sees_after.ensures.yes refl in
    let t = c.in_ok-head.ensures in
    let r = c.in_ok-read.ensures in
    record {
      parts = and_elseif v.parts t.form r.form;
      shown = elseifs_more c.args.self.now.reader.tokens.now c.args.at c.loop-items.next _ v.parts t.form r.form c.loop-items.items _ _ c.in_ok-push.ensures.ok v.shown v.sized t.shown t.sized
          (ap statement_view c.in_ok-body.ensures ∙ r.spans.shown);
      sized = omega (arith, v.sized, t.sized, r.spans.sized);
      reads = λ e body. leads (λ o. due_statement (elseif_open e body v.parts t.form ∷ o))
          (leads (λ o. headed (elseif_head e body v.parts) o)
          (leads (λ o. behind_parts e body v.parts o) (v.reads e body) (parts_elseif e body v.parts w.token w.stands.is w.role_is c.args.self.now.deep))
          (t.reads (elseif_head e body v.parts)))
          (r.reads (elseif_open e body v.parts t.form) refl);
      within = r.within;
      flat = elseifs_flat c.loop-items.items _ _ c.in_ok-push.ensures.ok v.flat t.flat (ap is_flat_statement c.in_ok-body.ensures ∙ c.in_ok-read.read.flat);
    }

pub loop-items-smaller : goal.loop-items-smaller
loop-items-smaller g c =
    let t = c.in_ok-head.ensures in
    let r = c.in_ok-read.ensures in
    omega (arith, t.ahead, r.ahead, r.within)
