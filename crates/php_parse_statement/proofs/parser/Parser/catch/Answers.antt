use Rattle.std.proofs.Common.{◌+◌, [], ◌∷◌, refl, ap, arith}
use Rattle.std.proofs.lemmas.Result.{err_from_is_err_and}
use Rattle.php_ast.specs.statement.Tree.{empty, and_catch, no_statement}
use Rattle.php_grammar.specs.statement.Role.{left_paren, left_brace}
use Rattle.php_grammar.specs.statement.Forms.{of_catch, of_classes, due, due_in_list, due_name, past_block}
use Rattle.php_parse_simple.proofs.Fails.{later}
use Rattle.php_parse_simple.proofs.Moves.{leads}
use Rattle.php_parse_statement.proofs.Guards.{catch_on, catch_block, names_shift, name_shift, statements_shift}
use Rattle.php_parse_statement.proofs.parser.Parser.catch.Goals as goal

pub returns-in_err-head : goal.returns-in_err-head
returns-in_err-head g c =
    let h = c.requires in
    let q = err_from_is_err_and c.from_residual.result c.from_residual.ensures.1 in
    rw (q.1, q.2) (λ block catches. later c.args.self.now.reader.tokens.now c.args.at (c.args.at + 1) (λ o. due (left_paren ∷ []) (due_name (of_classes block catches empty) o)) c.in_err-head.field-0.0 (omega arith)
    (catch_on block catches h.token h.stands.is h.role_is c.args.self.now.deep) (c.in_err-head.ensures block catches))

pub returns-in_err-body : goal.returns-in_err-body
returns-in_err-body g c =
    let h = c.requires in
    let a = c.in_ok-head.ensures in
    let q = err_from_is_err_and c.from_residual-in_err-body.result c.from_residual-in_err-body.ensures.1 in
    rw (q.1, q.2) (λ block catches. later c.args.self.now.reader.tokens.now c.args.at _ (λ o. due (left_brace ∷ []) (due_in_list (of_catch block catches a.classes a.variable) no_statement o)) c.in_err-body.field-0.0 (omega (arith, a.ahead))
    (leads (λ o. due (left_paren ∷ []) (due_name (of_classes block catches empty) o)) (catch_on block catches h.token h.stands.is h.role_is c.args.self.now.deep) (a.reads block catches))
    (c.in_err-body.ensures (of_catch block catches a.classes a.variable) (λ ss o. past_block block (and_catch catches a.classes a.variable ss) o) (catch_block block catches a.classes a.variable)))

pub returns : goal.returns
returns g c =
    let h = c.requires in
    let a = c.in_ok-head.ensures in
    let b = c.in_ok-body.ensures in
    record {
      classes = a.classes;
      variable = a.variable;
      body = b.statements;
      classes_shown = names_shift c.args.self.now.reader.tokens.now _ _ a.classes _ a.classes_shown (omega arith);
      variable_shown = name_shift c.args.self.now.reader.tokens.now _ _ a.variable _ a.variable_shown (omega arith);
      body_shown = statements_shift c.args.self.now.reader.tokens.now _ _ b.statements _ b.shown (omega (arith, a.sized));
      sized = omega (arith, a.sized, b.sized);
      reads = λ block catches. leads (λ o. due (left_brace ∷ []) (due_in_list (of_catch block catches a.classes a.variable) no_statement o))
          (leads (λ o. due (left_paren ∷ []) (due_name (of_classes block catches empty) o)) (catch_on block catches h.token h.stands.is h.role_is c.args.self.now.deep) (a.reads block catches))
          (b.reads (of_catch block catches a.classes a.variable) (λ ss o. past_block block (and_catch catches a.classes a.variable ss) o) (catch_block block catches a.classes a.variable));
      within = b.within;
      flat = b.flat;
    }
