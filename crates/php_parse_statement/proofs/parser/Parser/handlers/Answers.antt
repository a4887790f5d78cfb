use Rattle.std.proofs.Common.{◌+◌, Some, None, [], ◌∷◌, refl, ap, arith}
use Rattle.std.proofs.lemmas.Result.{err_from_is_err_and}
use Rattle.php_ast.specs.statement.Tree.{try_finally, no_statement}
use Rattle.php_grammar.specs.statement.Role.{left_brace}
use Rattle.php_grammar.specs.statement.Forms.{of_finally, due, due_in_list, past_block, done}
use Rattle.php_parse_simple.proofs.Fails.{later}
use Rattle.php_parse_simple.proofs.Moves.{leads, leads_halts}
use Rattle.php_parse_statement.proofs.Guards.{finally_on, finally_block, alone_halts, caught_ends, statements_shift}
use Rattle.php_parse_statement.proofs.parser.Parser.handlers.Goals as goal

pub returns-in_err-catches : goal.returns-in_err-catches
returns-in_err-catches g c =
    let q = err_from_is_err_and c.from_residual.result c.from_residual.ensures.1 in
    rw (q.1, q.2) c.in_err-catches.ensures

pub returns-in_err-last : goal.returns-in_err-last
returns-in_err-last g c =
    let f = c.in_ok-catches.ensures in
    let v = f.so_far in
    let s = c.if-sees_after.ensures.yes refl in
    let q = err_from_is_err_and c.from_residual-in_err-last.result c.from_residual-in_err-last.ensures.1 in
    rw (q.1, q.2) (λ body. later c.args.self.now.reader.tokens.now c.args.at _ (λ o. due (left_brace ∷ []) (due_in_list (of_finally body v.catches) no_statement o)) c.in_err-last.field-0.0 (omega (arith, v.sized))
    (leads (λ o. past_block body v.catches o) (v.reads body) (finally_on body v.catches s.token s.stands.is s.role_is c.args.self.now.deep))
    (c.in_err-last.ensures (of_finally body v.catches) (λ ss o. done (try_finally tt body v.catches ss) o) (finally_block body v.catches)))

pub returns-then-sees_after : goal.returns-then-sees_after
returns-then-sees_after g c =
    let f = c.in_ok-catches.ensures in
    let v = f.so_far in
    let s = c.if-sees_after.ensures.yes refl in
    let l = c.in_ok-last.ensures in
    record {
      catches = v.catches;
      last = Some l.statements;
      catches_shown = v.shown;
      last_shown = ap Some (statements_shift c.args.self.now.reader.tokens.now _ _ l.statements _ l.shown (omega (arith, v.sized)));
      sized = omega (arith, v.sized, l.sized);
      reads = λ body. leads (λ o. due (left_brace ∷ []) (due_in_list (of_finally body v.catches) no_statement o))
          (leads (λ o. past_block body v.catches o) (v.reads body) (finally_on body v.catches s.token s.stands.is s.role_is c.args.self.now.deep))
          (l.reads (of_finally body v.catches) (λ ss o. done (try_finally tt body v.catches ss) o) (finally_block body v.catches));
      within = l.within;
      flat_catches = v.flat;
      flat_last = l.flat;
    }

pub returns-then-is_empty : goal.returns-then-is_empty
returns-then-is_empty g c =
    let f = c.in_ok-catches.ensures in
    let v = f.so_far in
    λ body. record {
      halts = leads_halts (λ o. past_block body v.catches o) (v.reads body) (alone_halts body v.catches (v.none (c.if-is_empty.ensures.0 refl)) f.over (c.if-sees_after.ensures.no refl));
      ahead = omega (arith, v.sized);
      within = v.within;
    }

pub returns : goal.returns
returns g c =
    let f = c.in_ok-catches.ensures in
    let v = f.so_far in
    record {
      catches = v.catches;
      last = None;
      catches_shown = v.shown;
      last_shown = refl;
      sized = omega (arith, v.sized);
      reads = λ body. leads (λ o. past_block body v.catches o) (v.reads body) (caught_ends body v.catches (v.some (λ h. let e = c.if-is_empty.ensures.1 h in cc)) f.over (c.if-sees_after.ensures.no refl));
      within = v.within;
      flat_catches = v.flat;
      flat_last = refl;
    }
