use Rattle.std.proofs.Common.{◌+◌, ◌∙◌, Some, None, [], ◌∷◌, refl, ap, arith}
use Rattle.std.proofs.lemmas.Result.{err_from_is_err_and}
use Rattle.php_ast.specs.statement.Tree.{if_lists, if_else_lists, no_statement, no_elseif_list}
use Rattle.php_grammar.specs.statement.Role.{by_else, by_endif, fixed_colon}
use Rattle.php_grammar.specs.statement.Forms.{of_if, of_else, due, due_in_list}
use Rattle.php_parse_statement.specs.FormAnswer.{behind_lists, last_list, last_statements}
use Rattle.php_parse_simple.proofs.Fails.{later}
use Rattle.php_parse_simple.proofs.Moves.{leads, leads_halts, due_halts, due_outside}
use Rattle.php_parse_statement.proofs.Lists.{list_outside}
use Rattle.php_parse_statement.proofs.Listing.{if_colon, last_end, lists_none, else_none, parts_shift, list_shift}
use Rattle.php_parse_statement.proofs.parser.Parser.list_branches.Goals as goal

pub returns-in_err-first : goal.returns-in_err-first
returns-in_err-first g c =
    let h = c.requires in
    let q = err_from_is_err_and c.from_residual.result c.from_residual.ensures.1 in
    rw (q.1, q.2) (λ e. later c.args.self.now.reader.tokens.now c.args.at (c.args.at + 1) (λ o. due_in_list (of_if e) no_statement o) c.in_err-first.field-0.0 (omega arith)
    (if_colon e h.token h.stands.is h.role_is c.args.self.now.deep) (c.in_err-first.ensures (of_if e)))

pub returns-in_err-parts : goal.returns-in_err-parts
returns-in_err-parts g c =
    let h = c.requires in
    let f = c.in_ok-first.ensures in
    let b = f.so_far in
    let q = err_from_is_err_and c.from_residual-in_err-parts.result c.from_residual-in_err-parts.ensures.1 in
    rw (q.1, q.2) (λ e. later c.args.self.now.reader.tokens.now c.args.at _ (λ o. behind_lists e b.statements no_elseif_list o) c.in_err-parts.field-0.0 (omega (arith, b.sized))
    (leads (λ o. due_in_list (of_if e) no_statement o) (if_colon e h.token h.stands.is h.role_is c.args.self.now.deep) (b.reads (of_if e))) (c.in_err-parts.ensures e b.statements))

pub returns-in_err-next : goal.returns-in_err-next
returns-in_err-next g c =
    let h = c.requires in
    let f = c.in_ok-first.ensures in
    let b = f.so_far in
    let p = c.in_ok-parts.ensures in
    let v = p.so_far in
    let q = err_from_is_err_and c.from_residual-in_err-next.result c.from_residual-in_err-next.ensures.1 in
    rw (q.1, q.2) (λ e. later c.args.self.now.reader.tokens.now c.args.at _ (λ o. behind_lists e b.statements v.parts o) c.in_err-next.field-0.0 (omega (arith, b.sized, v.sized))
    (leads (λ o. behind_lists e b.statements no_elseif_list o)
    (leads (λ o. due_in_list (of_if e) no_statement o) (if_colon e h.token h.stands.is h.role_is c.args.self.now.deep) (b.reads (of_if e)))
    (v.reads e b.statements))
    (c.in_err-next.ensures (last_list e b.statements v.parts) (last_statements b.statements v.parts) (if_lists tt e b.statements v.parts) (λ o. last_end e b.statements v.parts o by_endif) refl
    (λ other o. last_end e b.statements v.parts o _ ∙ lists_none e b.statements v.parts o _ (c.if-not-sees_after.ensures.no refl) p.over other)))

pub returns-then-not-sees_after : goal.returns-then-not-sees_after
returns-then-not-sees_after g c =
    let h = c.requires in
    let f = c.in_ok-first.ensures in
    let b = f.so_far in
    let p = c.in_ok-parts.ensures in
    let v = p.so_far in
    let n = c.in_ok-next.ensures in
    record {
      body = b.statements;
      parts = v.parts;
      last = None;
      body_shown = b.shown;
      parts_shown = parts_shift c.args.self.now.reader.tokens.now _ v.parts _ _ v.shown (omega (arith, b.sized));
      last_shown = refl;
      sized = omega (arith, b.sized, v.sized, n.two);
      reads = λ e. leads (λ o. behind_lists e b.statements v.parts o)
          (leads (λ o. behind_lists e b.statements no_elseif_list o)
          (leads (λ o. due_in_list (of_if e) no_statement o) (if_colon e h.token h.stands.is h.role_is c.args.self.now.deep) (b.reads (of_if e)))
          (v.reads e b.statements))
          (n.reads (last_list e b.statements v.parts) (last_statements b.statements v.parts) (if_lists tt e b.statements v.parts) (λ o. last_end e b.statements v.parts o by_endif) refl);
      within = n.within;
      flat_body = b.flat;
      flat_parts = v.flat;
      flat_last = refl;
    }

pub returns-then-not-sees : goal.returns-then-not-sees
returns-then-not-sees g c =
    let h = c.requires in
    let f = c.in_ok-first.ensures in
    let b = f.so_far in
    let p = c.in_ok-parts.ensures in
    let v = p.so_far in
    let w = c.if-not-sees_after.ensures.yes refl in
    λ e. record {
      halts = leads_halts (λ o. due (fixed_colon ∷ []) (due_in_list (of_else e b.statements v.parts) no_statement o))
          (leads (λ o. behind_lists e b.statements v.parts o)
          (leads (λ o. behind_lists e b.statements no_elseif_list o)
          (leads (λ o. due_in_list (of_if e) no_statement o) (if_colon e h.token h.stands.is h.role_is c.args.self.now.deep) (b.reads (of_if e)))
          (v.reads e b.statements))
          (list_outside (last_list e b.statements v.parts) (last_statements b.statements v.parts) w.token by_else (λ o. due (fixed_colon ∷ []) (due_in_list (of_else e b.statements v.parts) no_statement o)) w.stands.is w.role_is refl
          (λ o. last_end e b.statements v.parts o by_else) c.args.self.now.deep))
          (due_halts fixed_colon [] (λ o. due_in_list (of_else e b.statements v.parts) no_statement o) c.if-not-sees.ensures);
      ahead = omega (arith, b.sized, v.sized);
      within = omega (arith, w.stands.within);
    }

pub returns-in_err-last : goal.returns-in_err-last
returns-in_err-last g c =
    let h = c.requires in
    let f = c.in_ok-first.ensures in
    let b = f.so_far in
    let p = c.in_ok-parts.ensures in
    let v = p.so_far in
    let w = c.if-not-sees_after.ensures.yes refl in
    let s = c.if-not-sees.ensures in
    let q = err_from_is_err_and c.from_residual-in_err-last.result c.from_residual-in_err-last.ensures.1 in
    rw (q.1, q.2) (λ e. later c.args.self.now.reader.tokens.now c.args.at _ (λ o. due_in_list (of_else e b.statements v.parts) no_statement o) c.in_err-last.field-0.0 (omega (arith, b.sized, v.sized))
    (leads (λ o. due (fixed_colon ∷ []) (due_in_list (of_else e b.statements v.parts) no_statement o))
    (leads (λ o. behind_lists e b.statements v.parts o)
    (leads (λ o. behind_lists e b.statements no_elseif_list o)
    (leads (λ o. due_in_list (of_if e) no_statement o) (if_colon e h.token h.stands.is h.role_is c.args.self.now.deep) (b.reads (of_if e)))
    (v.reads e b.statements))
    (list_outside (last_list e b.statements v.parts) (last_statements b.statements v.parts) w.token by_else (λ o. due (fixed_colon ∷ []) (due_in_list (of_else e b.statements v.parts) no_statement o)) w.stands.is w.role_is refl
    (λ o. last_end e b.statements v.parts o by_else) c.args.self.now.deep))
    (due_outside fixed_colon [] (λ o. due_in_list (of_else e b.statements v.parts) no_statement o) s.token s.stands.is s.role_is (λ o. refl) (λ d. refl) c.args.self.now.deep))
    (c.in_err-last.ensures (of_else e b.statements v.parts)))

pub returns-in_err-next-2 : goal.returns-in_err-next-2
returns-in_err-next-2 g c =
    let h = c.requires in
    let f = c.in_ok-first.ensures in
    let b = f.so_far in
    let p = c.in_ok-parts.ensures in
    let v = p.so_far in
    let w = c.if-not-sees_after.ensures.yes refl in
    let s = c.if-not-sees.ensures in
    let x = c.in_ok-last.ensures in
    let l = x.so_far in
    let q = err_from_is_err_and c.from_residual-in_err-next-2.result c.from_residual-in_err-next-2.ensures.1 in
    rw (q.1, q.2) (λ e. later c.args.self.now.reader.tokens.now c.args.at _ (λ o. due_in_list (of_else e b.statements v.parts) l.statements o) c.in_err-next-2.field-0.0 (omega (arith, b.sized, v.sized, l.sized))
    (leads (λ o. due_in_list (of_else e b.statements v.parts) no_statement o)
    (leads (λ o. due (fixed_colon ∷ []) (due_in_list (of_else e b.statements v.parts) no_statement o))
    (leads (λ o. behind_lists e b.statements v.parts o)
    (leads (λ o. behind_lists e b.statements no_elseif_list o)
    (leads (λ o. due_in_list (of_if e) no_statement o) (if_colon e h.token h.stands.is h.role_is c.args.self.now.deep) (b.reads (of_if e)))
    (v.reads e b.statements))
    (list_outside (last_list e b.statements v.parts) (last_statements b.statements v.parts) w.token by_else (λ o. due (fixed_colon ∷ []) (due_in_list (of_else e b.statements v.parts) no_statement o)) w.stands.is w.role_is refl
    (λ o. last_end e b.statements v.parts o by_else) c.args.self.now.deep))
    (due_outside fixed_colon [] (λ o. due_in_list (of_else e b.statements v.parts) no_statement o) s.token s.stands.is s.role_is (λ o. refl) (λ d. refl) c.args.self.now.deep))
    (l.reads (of_else e b.statements v.parts)))
    (c.in_err-next-2.ensures (of_else e b.statements v.parts) l.statements (if_else_lists tt e b.statements v.parts l.statements) (λ o. refl) refl (λ other o. else_none e b.statements v.parts l.statements o _ other)))

pub returns : goal.returns
returns g c =
    let h = c.requires in
    let f = c.in_ok-first.ensures in
    let b = f.so_far in
    let p = c.in_ok-parts.ensures in
    let v = p.so_far in
    let w = c.if-not-sees_after.ensures.yes refl in
    let s = c.if-not-sees.ensures in
    let x = c.in_ok-last.ensures in
    let l = x.so_far in
    let n = c.in_ok-next-2.ensures in
    record {
      body = b.statements;
      parts = v.parts;
      last = Some l.statements;
      body_shown = b.shown;
      parts_shown = parts_shift c.args.self.now.reader.tokens.now _ v.parts _ _ v.shown (omega (arith, b.sized));
      last_shown = ap Some (list_shift c.args.self.now.reader.tokens.now _ l.statements _ _ l.shown (omega (arith, b.sized, v.sized)));
      sized = omega (arith, b.sized, v.sized, l.sized, n.two);
      reads = λ e. leads (λ o. due_in_list (of_else e b.statements v.parts) l.statements o)
          (leads (λ o. due_in_list (of_else e b.statements v.parts) no_statement o)
          (leads (λ o. due (fixed_colon ∷ []) (due_in_list (of_else e b.statements v.parts) no_statement o))
          (leads (λ o. behind_lists e b.statements v.parts o)
          (leads (λ o. behind_lists e b.statements no_elseif_list o)
          (leads (λ o. due_in_list (of_if e) no_statement o) (if_colon e h.token h.stands.is h.role_is c.args.self.now.deep) (b.reads (of_if e)))
          (v.reads e b.statements))
          (list_outside (last_list e b.statements v.parts) (last_statements b.statements v.parts) w.token by_else (λ o. due (fixed_colon ∷ []) (due_in_list (of_else e b.statements v.parts) no_statement o)) w.stands.is w.role_is refl
          (λ o. last_end e b.statements v.parts o by_else) c.args.self.now.deep))
          (due_outside fixed_colon [] (λ o. due_in_list (of_else e b.statements v.parts) no_statement o) s.token s.stands.is s.role_is (λ o. refl) (λ d. refl) c.args.self.now.deep))
          (l.reads (of_else e b.statements v.parts)))
          (n.reads (of_else e b.statements v.parts) l.statements (if_else_lists tt e b.statements v.parts l.statements) (λ o. refl) refl);
      within = n.within;
      flat_body = b.flat;
      flat_parts = v.flat;
      flat_last = l.flat;
    }
