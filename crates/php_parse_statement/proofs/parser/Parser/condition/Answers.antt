use Rattle.std.proofs.Common.{◌+◌, ◌∙◌, ◌∷◌, refl, arith}
use Rattle.std.proofs.lemmas.Result.{err_from_is_err_and}
use Rattle.php_grammar.specs.statement.Role.{at_if}
use Rattle.php_grammar.specs.statement.Forms.{if_head, if_open, due_statement, past_if}
use Rattle.php_grammar.specs.statement.Machine.{headed}
use Rattle.php_parse_statement.specs.FormAnswer.{if_form, if_lists_form}
use Rattle.php_parse_simple.proofs.Fails.{later}
use Rattle.php_parse_simple.proofs.Moves.{leads}
use Rattle.php_parse_simple.proofs.Plain.{begins}
use Rattle.php_parse_statement.proofs.Looping.{if_enters, if_spans}
use Rattle.php_parse_statement.proofs.Listing.{if_lists_spans, optional_lists}
use Rattle.php_parse_statement.proofs.parser.Parser.condition.Goals as goal

pub returns-in_err-head : goal.returns-in_err-head
returns-in_err-head g c =
    let h = c.requires in
    let q = err_from_is_err_and c.from_residual.result c.from_residual.ensures.1 in
    rw (q.1, q.2) (later c.args.self.now.reader.tokens.now c.args.at (c.args.at + 1) (λ o. headed if_head o) c.in_err-head.field-0.0 (omega arith)
    (begins at_if h.token h.stands.is h.role_is (λ o. refl) (λ o. refl) c.args.self.now.deep) (c.in_err-head.ensures if_head))

pub returns-in_err-lists : goal.returns-in_err-lists
returns-in_err-lists g c =
    let h = c.requires in
    let t = c.in_ok-head.ensures in
    let q = err_from_is_err_and c.from_residual-in_err-lists.result c.from_residual-in_err-lists.ensures.1 in
    rw (q.1, q.2) (later c.args.self.now.reader.tokens.now c.args.at _ (λ o. past_if t.form o) c.in_err-lists.field-0.0 (omega (arith, t.ahead))
    (leads (λ o. headed if_head o) (begins at_if h.token h.stands.is h.role_is (λ o. refl) (λ o. refl) c.args.self.now.deep) (t.reads if_head)) (c.in_err-lists.ensures t.form))

pub returns-then-sees : goal.returns-then-sees
returns-then-sees g c =
    let h = c.requires in
    let t = c.in_ok-head.ensures in
    let r = c.in_ok-lists.ensures in
    record {
      form = if_lists_form t.form r.body r.parts r.last;
      spans = if_lists_spans c.args.self.now.reader.tokens.now _ _ _ _ _ _ t.form r.body r.parts r.last c.args.at _ _ c.if_lists_statement.ensures.shown c.spot.ensures t.shown t.sized r.body_shown r.parts_shown (optional_lists c.in_ok-lists.lists.last ∙ r.last_shown) r.sized;
      reads = leads (λ o. past_if t.form o) (leads (λ o. headed if_head o) (begins at_if h.token h.stands.is h.role_is (λ o. refl) (λ o. refl) c.args.self.now.deep) (t.reads if_head)) (r.reads t.form);
      ahead = omega (arith, t.ahead, r.sized);
      within = r.within;
    }

pub returns-in_err-bodies : goal.returns-in_err-bodies
returns-in_err-bodies g c =
    let h = c.requires in
    let t = c.in_ok-head.ensures in
    let q = err_from_is_err_and c.from_residual-in_err-bodies.result c.from_residual-in_err-bodies.ensures.1 in
    rw (q.1, q.2) (later c.args.self.now.reader.tokens.now c.args.at _ (λ o. due_statement (if_open t.form ∷ o)) c.in_err-bodies.field-0.0 (omega (arith, t.ahead))
    (leads (λ o. past_if t.form o) (leads (λ o. headed if_head o) (begins at_if h.token h.stands.is h.role_is (λ o. refl) (λ o. refl) c.args.self.now.deep) (t.reads if_head)) (if_enters t.form c.if-sees.ensures))
    (c.in_err-bodies.ensures t.form))

pub returns : goal.returns
returns g c =
    let h = c.requires in
    let t = c.in_ok-head.ensures in
    let r = c.in_ok-bodies.ensures in
    record {
      form = if_form t.form r.body r.parts r.last;
      spans = if_spans c.args.self.now.reader.tokens.now _ _ _ _ _ _ t.form r.body r.parts r.last c.args.at _ _ c.if_statement.ensures.shown c.spot-2.ensures t.shown t.sized r.body_shown r.parts_shown r.last_shown r.sized;
      reads = leads (λ o. due_statement (if_open t.form ∷ o))
          (leads (λ o. past_if t.form o) (leads (λ o. headed if_head o) (begins at_if h.token h.stands.is h.role_is (λ o. refl) (λ o. refl) c.args.self.now.deep) (t.reads if_head)) (if_enters t.form c.if-sees.ensures))
          (r.reads t.form);
      ahead = omega (arith, t.ahead, r.ahead);
      within = r.within;
    }

pub if_lists_statement-requires-clause-test : goal.if_lists_statement-requires-clause-test
if_lists_statement-requires-clause-test g c = c.in_ok-head.ensures.flat

pub if_lists_statement-requires-clause-body : goal.if_lists_statement-requires-clause-body
if_lists_statement-requires-clause-body g c = c.in_ok-lists.ensures.flat_body

pub if_lists_statement-requires-clause-parts : goal.if_lists_statement-requires-clause-parts
if_lists_statement-requires-clause-parts g c = c.in_ok-lists.ensures.flat_parts

pub if_lists_statement-requires-clause-last : goal.if_lists_statement-requires-clause-last
if_lists_statement-requires-clause-last g c = c.in_ok-lists.ensures.flat_last

pub if_statement-requires-clause-test : goal.if_statement-requires-clause-test
if_statement-requires-clause-test g c = c.in_ok-head.ensures.flat

pub if_statement-requires-clause-body : goal.if_statement-requires-clause-body
if_statement-requires-clause-body g c = c.in_ok-bodies.ensures.flat_body

pub if_statement-requires-clause-parts : goal.if_statement-requires-clause-parts
if_statement-requires-clause-parts g c = c.in_ok-bodies.ensures.flat_parts

pub if_statement-requires-clause-last : goal.if_statement-requires-clause-last
if_statement-requires-clause-last g c = c.in_ok-bodies.ensures.flat_last
