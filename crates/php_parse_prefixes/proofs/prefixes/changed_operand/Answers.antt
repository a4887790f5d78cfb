use Rattle.std.proofs.Common.{◌+◌, ◌∙◌, refl, arith, ap, sym}
use Rattle.std.proofs.lemmas.Result.{err_from_is_err_and}
use Rattle.php_ast.specs.expression.Proper.{free, top}
use Rattle.php_parse_operands.proofs.Fails.{fewer}
use Rattle.php_parse_operands.proofs.Heads.{follows_head}
use Rattle.php_token.specs.Token.{token_at}
use Rattle.php_grammar.specs.expression.Role.{by_count}
use Rattle.php_ast.specs.expression.Tree.{count}
use Rattle.php_grammar.specs.expression.Machine.{holds, after, expects}
use Rattle.php_reader.specs.Seen.{rest}
use Rattle.php_grammar.proofs.expression.Trees.{open_by_ends}
use Rattle.php_reader.specs.RoleView.{opening_view}
use Rattle.php_parse_operands.proofs.Moves.{leads, weaken, settle, draw}
use Rattle.php_parse_prefixes.proofs.Founds.{behind, static_alone}
use Rattle.php_parse_prefixes.proofs.Fronts.{rests_same, counted_spans}
use Rattle.php_parse_prefixes.proofs.prefixes.changed_operand.Goals as goal

pub returns-in-Some : goal.returns-in-Some
returns-in-Some g c =
    let o = c.requires.here in
    let a = rw c.in-Some.is at c.static_alone.ensures in
    record { halts = static_alone o.token o.stands.is (o.role_is ∙ ap (λ b. opening_view b (token_at c.args.parser.now.reader.tokens.now c.args.at).text) a.0) (λ e. a.1 (sym (follows_head c.args.parser.now.reader.tokens.now (c.args.at + 1) _ a.2) ∙ e)) c.args.parser.now.deep; ahead = omega arith; within = omega (arith, o.stands.within) }

pub returns-in_err-left : goal.returns-in_err-left
returns-in_err-left g c =
    let q = err_from_is_err_and c.from_residual.result c.from_residual.ensures.1 in
    rw (q.1, q.2) (fewer c.args.parser.now.reader.room free top (λ s. expects s) (rest c.args.parser.now.reader.tokens.now c.args.at) c.args.parser.now.reader.tokens.now c.args.at c.in_err-left.field-0.0 (omega arith) c.in_err-left.ensures)

pub returns-in-Some-Assign : goal.returns-in-Some-Assign
returns-in-Some-Assign g c =
    let r = c.in_ok-left.ensures in
    behind free c.args.parser.now.reader.tokens.now c.args.at c.args.at _ (λ s. holds r.form s) _ (omega (arith, r.ahead))
    (leads (λ s. after r.form s) (weaken (omega arith) r.reads) (settle r.form _ (omega arith)))
    (c.assign.ensures r.form c.args.at r.spans (omega (arith, r.opened)))

pub returns-in_ok-count_expr-in-Some-Count : goal.returns-in_ok-count_expr-in-Some-Count
returns-in_ok-count_expr-in-Some-Count g c =
    let r = c.in_ok-left.ensures in
    let d = (rw c.in-Some-Count.field-0-is at (rw c.in-Some-Count.is at c.change_of.ensures)) _ _ r.follows in
    record {
      form = count r.form c.in-Some-Count.count;
      spans = counted_spans c.args.parser.now.reader.tokens.now _ _ c.in-Some-Count.count r.form c.args.at _ c.in_ok-count_expr-in-Some-Count.ensures.shown r.spans;
      reads = leads (λ s. after r.form s) (weaken (omega arith) r.reads) (leads (λ s. holds r.form s) (settle r.form _ (omega arith)) (draw d.token (by_count c.in-Some-Count.count) r.form d.stands.is d.role_is (omega arith) (omega (arith, r.opened)) c.args.parser.now.deep));
      edge_is = refl;
      rests = rests_same free _;
      follows = c.next_at.ensures;
      bare = λ h. cc;
      ahead = omega (arith, r.ahead);
      within = omega (arith, d.stands.within);
      deep = c.args.parser.now.deep;
    }

pub returns-in-None : goal.returns-in-None
returns-in-None g c =
    let r = c.in_ok-left.ensures in
    let d = (rw c.in-None.is at c.change_of.ensures) _ _ r.follows in
    record {
      form = r.form;
      spans = r.spans;
      reads = leads (λ s. after r.form s) (weaken (omega arith) r.reads) (settle r.form _ (omega arith));
      edge_is = r.edge_is;
      rests = d _ r.rests;
      follows = r.follows;
      bare = λ h. let b = (open_by_ends r.form (omega (arith, r.opened))).not_bare in cc;
      ahead = r.ahead;
      within = r.within;
      deep = c.args.parser.now.deep;
    }

pub assign-requires : goal.assign-requires
assign-requires g c = record { here = (rw c.in-Some-Assign.field-0-is at (rw c.in-Some-Assign.is at c.change_of.ensures)) c.args.parser.now.reader.tokens.now c.in_ok-left.left.next c.in_ok-left.ensures.follows }

pub overflow_add-result-in-Some-Count : goal.overflow_add-result-in-Some-Count
overflow_add-result-in-Some-Count g c =
    let d = (rw c.in-Some-Count.field-0-is at (rw c.in-Some-Count.is at c.change_of.ensures)) c.args.parser.now.reader.tokens.now c.in_ok-left.left.next c.in_ok-left.ensures.follows in
    omega (arith, d.stands.fits)

pub overflow_add-left : goal.overflow_add-left
overflow_add-left g c =
    let d = (rw c.in-Some-Count.field-0-is at (rw c.in-Some-Count.is at c.change_of.ensures)) c.args.parser.now.reader.tokens.now c.in_ok-left.left.next c.in_ok-left.ensures.follows in
    omega (arith, d.stands.fits)
