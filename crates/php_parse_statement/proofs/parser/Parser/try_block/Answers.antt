use Rattle.std.proofs.Common.{◌+◌, ◌∙◌, [], ◌∷◌, refl, ap, arith}
use Rattle.std.proofs.lemmas.Result.{err_from_is_err_and}
use Rattle.php_ast.specs.statement.Tree.{no_catch, no_statement}
use Rattle.php_grammar.specs.statement.Role.{at_try, left_brace}
use Rattle.php_grammar.specs.statement.Forms.{of_try, due, due_in_list, past_block}
use Rattle.php_parse_simple.proofs.Fails.{later}
use Rattle.php_parse_simple.proofs.Moves.{leads}
use Rattle.php_parse_simple.proofs.Plain.{begins}
use Rattle.php_parse_statement.specs.TryAnswer.{try_form}
use Rattle.php_parse_statement.proofs.Guards.{try_list, try_spans, optional_lists}
use Rattle.php_parse_statement.proofs.parser.Parser.try_block.Goals as goal

pub returns-in_err-body : goal.returns-in_err-body
returns-in_err-body g c =
    let h = c.requires in
    let q = err_from_is_err_and c.from_residual.result c.from_residual.ensures.1 in
    rw (q.1, q.2) (later c.args.self.now.reader.tokens.now c.args.at (c.args.at + 1) (λ o. due (left_brace ∷ []) (due_in_list of_try no_statement o)) c.in_err-body.field-0.0 (omega arith)
    (begins at_try h.token h.stands.is h.role_is (λ o. refl) (λ o. refl) c.args.self.now.deep) (c.in_err-body.ensures of_try (λ ss o. past_block ss no_catch o) try_list))

pub returns-in_err-handlers : goal.returns-in_err-handlers
returns-in_err-handlers g c =
    let h = c.requires in
    let b = c.in_ok-body.ensures in
    let q = err_from_is_err_and c.from_residual-in_err-handlers.result c.from_residual-in_err-handlers.ensures.1 in
    rw (q.1, q.2) (later c.args.self.now.reader.tokens.now c.args.at _ (λ o. past_block b.statements no_catch o) c.in_err-handlers.field-0.0 (omega (arith, b.sized))
    (leads (λ o. due (left_brace ∷ []) (due_in_list of_try no_statement o)) (begins at_try h.token h.stands.is h.role_is (λ o. refl) (λ o. refl) c.args.self.now.deep) (b.reads of_try (λ ss o. past_block ss no_catch o) try_list))
    (c.in_err-handlers.ensures b.statements))

pub returns : goal.returns
returns g c =
    let h = c.requires in
    let b = c.in_ok-body.ensures in
    let r = c.in_ok-handlers.ensures in
    record {
      form = try_form b.statements r.catches r.last;
      spans = try_spans c.args.self.now.reader.tokens.now _ _ _ _ _ b.statements r.catches r.last c.args.at _ _ c.try_statement.ensures.shown c.spot.ensures b.shown b.sized r.catches_shown (optional_lists c.in_ok-handlers.handlers.last ∙ r.last_shown) r.sized;
      reads = leads (λ o. past_block b.statements no_catch o)
          (leads (λ o. due (left_brace ∷ []) (due_in_list of_try no_statement o)) (begins at_try h.token h.stands.is h.role_is (λ o. refl) (λ o. refl) c.args.self.now.deep) (b.reads of_try (λ ss o. past_block ss no_catch o) try_list))
          (r.reads b.statements);
      ahead = omega (arith, b.sized, r.sized);
      within = r.within;
    }

pub try_statement-requires-clause-body : goal.try_statement-requires-clause-body
try_statement-requires-clause-body g c = c.in_ok-body.ensures.flat

pub try_statement-requires-clause-catches : goal.try_statement-requires-clause-catches
try_statement-requires-clause-catches g c = c.in_ok-handlers.ensures.flat_catches

pub try_statement-requires-clause-last : goal.try_statement-requires-clause-last
try_statement-requires-clause-last g c = c.in_ok-handlers.ensures.flat_last
