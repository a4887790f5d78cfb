use Rattle.std.proofs.Common.{◌+◌, [], ◌∷◌, map, refl, ap, arith}
use Rattle.std.proofs.lemmas.Result.{err_from_is_err_and}
use Rattle.php_ast.specs.statement.Tree.{no_statement, no_elseif_list, and_elseif_list}
use Rattle.php_ast.specs.statement.View.{elseif_lists_from}
use Rattle.php_grammar.specs.statement.Role.{by_elseif, fixed_colon}
use Rattle.php_grammar.specs.statement.Forms.{elseif_list_head, of_elseif, due, due_in_list}
use Rattle.std.specs.List.{list_all}
use Rattle.php_flat.specs.Statements.{is_flat_elseif_list}
use Rattle.php_parse_statement.proofs.Flats.{elseif_lists_flat}
use Rattle.php_grammar.specs.statement.Machine.{headed}
use Rattle.php_parse_statement.specs.FormAnswer.{behind_lists, last_list, last_statements}
use Rattle.php_parse_simple.specs.Parts.{elseif_list_parts}
use Rattle.php_parse_simple.proofs.Fails.{later}
use Rattle.php_parse_simple.proofs.Moves.{leads, leads_halts, due_halts, due_outside}
use Rattle.php_parse_statement.proofs.Lists.{list_outside}
use Rattle.php_parse_statement.proofs.Listing.{last_end, elseif_lists_more}
use Rattle.php_parse_statement.proofs.parser.Parser.elseif_lists.Goals as goal

pub loop-items-init : goal.loop-items-init
loop-items-init g c = record {
  parts = no_elseif_list;
  shown = ap (λ l. elseif_lists_from no_elseif_list (map elseif_list_parts l)) c.new-items.ensures;
  sized = omega arith;
  reads = λ e body. record { same = λ n o is. refl };
  ended = c.requires.ended;
  within = c.requires.within;
  flat = ap (list_all is_flat_elseif_list) c.new-items.ensures;
}

pub returns-then-not-sees_after : goal.returns-then-not-sees_after
returns-then-not-sees_after g c = record { so_far = c.loop-items.invariant; over = c.if-not-sees_after.ensures.no refl }

pub returns-in_err-head : goal.returns-in_err-head
returns-in_err-head g c =
    let v = c.loop-items.invariant in
    let w = c.if-not-sees_after.ensures.yes refl in
    let q = err_from_is_err_and c.from_residual.result c.from_residual.ensures.1 in
    rw (q.1, q.2) (λ e body. later c.args.self.now.reader.tokens.now c.args.at (c.loop-items.next + 1) (λ o. headed (elseif_list_head e body v.parts) o) c.in_err-head.field-0.0 (omega (arith, v.sized))
    (leads (λ o. behind_lists e body v.parts o) (v.reads e body)
    (list_outside (last_list e body v.parts) (last_statements body v.parts) w.token by_elseif (λ o. headed (elseif_list_head e body v.parts) o) w.stands.is w.role_is refl (λ o. last_end e body v.parts o by_elseif) c.args.self.now.deep))
    (c.in_err-head.ensures (elseif_list_head e body v.parts)))

pub returns-then-not-sees : goal.returns-then-not-sees
returns-then-not-sees g c =
    let v = c.loop-items.invariant in
    let w = c.if-not-sees_after.ensures.yes refl in
    let t = c.in_ok-head.ensures in
    λ e body. record {
      halts = leads_halts (λ o. due (fixed_colon ∷ []) (due_in_list (of_elseif e body v.parts t.form) no_statement o))
          (leads (λ o. headed (elseif_list_head e body v.parts) o)
          (leads (λ o. behind_lists e body v.parts o) (v.reads e body)
          (list_outside (last_list e body v.parts) (last_statements body v.parts) w.token by_elseif (λ o. headed (elseif_list_head e body v.parts) o) w.stands.is w.role_is refl (λ o. last_end e body v.parts o by_elseif) c.args.self.now.deep))
          (t.reads (elseif_list_head e body v.parts)))
          (due_halts fixed_colon [] (λ o. due_in_list (of_elseif e body v.parts t.form) no_statement o) c.if-not-sees.ensures);
      ahead = omega (arith, v.sized, t.ahead);
      within = t.within;
    }

pub returns-in_err-list : goal.returns-in_err-list
returns-in_err-list g c =
    let v = c.loop-items.invariant in
    let w = c.if-not-sees_after.ensures.yes refl in
    let t = c.in_ok-head.ensures in
    let s = c.if-not-sees.ensures in
    let q = err_from_is_err_and c.from_residual-in_err-list.result c.from_residual-in_err-list.ensures.1 in
    rw (q.1, q.2) (λ e body. later c.args.self.now.reader.tokens.now c.args.at _ (λ o. due_in_list (of_elseif e body v.parts t.form) no_statement o) c.in_err-list.field-0.0 (omega (arith, v.sized, t.ahead))
    (leads (λ o. due (fixed_colon ∷ []) (due_in_list (of_elseif e body v.parts t.form) no_statement o))
    (leads (λ o. headed (elseif_list_head e body v.parts) o)
    (leads (λ o. behind_lists e body v.parts o) (v.reads e body)
    (list_outside (last_list e body v.parts) (last_statements body v.parts) w.token by_elseif (λ o. headed (elseif_list_head e body v.parts) o) w.stands.is w.role_is refl (λ o. last_end e body v.parts o by_elseif) c.args.self.now.deep))
    (t.reads (elseif_list_head e body v.parts)))
    (due_outside fixed_colon [] (λ o. due_in_list (of_elseif e body v.parts t.form) no_statement o) s.token s.stands.is s.role_is (λ o. refl) (λ d. refl) c.args.self.now.deep))
    (c.in_err-list.ensures (of_elseif e body v.parts t.form)))

pub loop-items-preserved : goal.loop-items-preserved
loop-items-preserved g c =
    let v = c.loop-items.invariant in
    let w = c.if-not-sees_after.ensures.yes refl in
    let t = c.in_ok-head.ensures in
    let s = c.if-not-sees.ensures in
    let f = c.in_ok-list.ensures in
    let l = f.so_far in
    record {
      parts = and_elseif_list v.parts t.form l.statements;
      shown = elseif_lists_more c.args.self.now.reader.tokens.now c.args.at c.loop-items.next _ v.parts t.form l.statements c.loop-items.items _ _ c.in_ok-push.ensures.ok v.shown v.sized t.shown t.sized l.shown;
      sized = omega (arith, v.sized, t.sized, l.sized);
      reads = λ e body. leads (λ o. due_in_list (of_elseif e body v.parts t.form) no_statement o)
          (leads (λ o. due (fixed_colon ∷ []) (due_in_list (of_elseif e body v.parts t.form) no_statement o))
          (leads (λ o. headed (elseif_list_head e body v.parts) o)
          (leads (λ o. behind_lists e body v.parts o) (v.reads e body)
          (list_outside (last_list e body v.parts) (last_statements body v.parts) w.token by_elseif (λ o. headed (elseif_list_head e body v.parts) o) w.stands.is w.role_is refl (λ o. last_end e body v.parts o by_elseif) c.args.self.now.deep))
          (t.reads (elseif_list_head e body v.parts)))
          (due_outside fixed_colon [] (λ o. due_in_list (of_elseif e body v.parts t.form) no_statement o) s.token s.stands.is s.role_is (λ o. refl) (λ d. refl) c.args.self.now.deep))
          (l.reads (of_elseif e body v.parts t.form));
      ended = f.ended;
      within = l.within;
      flat = elseif_lists_flat c.loop-items.items _ _ c.in_ok-push.ensures.ok v.flat t.flat l.flat;
    }

pub loop-items-smaller : goal.loop-items-smaller
loop-items-smaller g c =
    let t = c.in_ok-head.ensures in
    let s = c.if-not-sees.ensures in
    let f = c.in_ok-list.ensures in
    let l = f.so_far in
    omega (arith, t.ahead, l.sized, l.within)
