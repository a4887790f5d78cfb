use Rattle.std.proofs.Common.{◌+◌, ◌-◌, ◌∷◌, refl, arith, inl}
use Rattle.php_reader.specs.declared.limit.TheConstants.{LEAST_POWER}
use Rattle.php_grammar.specs.expression.Machine.{short_open, then_open, expects, holds}
use Rattle.php_parse_operands.proofs.Fails.{between}
use Rattle.php_parse_operands.proofs.Moves.{leads, inside}
use Rattle.php_parse_expression.proofs.Pendings.{onward_behind}
use Rattle.php_parse_expression.proofs.Joins.{short_opens, short_spans, then_opens, then_unclosed}
use Rattle.php_token.specs.declared.kind.Punct.TheVariants as mark
use Rattle.php_ast.specs.Symbol.{punct}
use Rattle.php_grammar.specs.declared.closer.Closer.TheVariants as ender
use Rattle.php_grammar.specs.expression.Role.{closes, is_colon}
use Rattle.php_grammar.proofs.expression.Roles.{colon_says}
use Rattle.php_reader.proofs.Items.{shows_one, tests_none}
use Rattle.php_parse_expression.proofs.operators.choice.Goals as goal

pub overflow_add-result : goal.overflow_add-result
overflow_add-result g c =
    let u = c.if-ended_by.ensures.yes refl _ _ c.due_at-due.ensures.marks in
    omega (arith, u.stands.fits)

pub returns-in-Err : goal.returns-in-Err
returns-in-Err g c = λ f start spans is.
    let o = c.requires.here in
    rw c.discard.ensures (between c.args.parser.now.reader.tokens.now c.args.left.next (c.args.left.next + 1) (then_open f) c.in-Err.stop (omega arith) c.args.parser.now.deep refl (λ d. refl)
    (then_opens o.token f o.stands.is o.role_is c.requires.near (omega arith) (tests_none is_colon (closes ender.Colon) (punct mark.Colon) _ colon_says refl (c.if-ended_by.ensures.no refl _ _ c.due_at-due.ensures.marks)) c.args.parser.now.deep) c.in-Err.ensures)

pub returns-then-not-closed_by : goal.returns-then-not-closed_by
returns-then-not-closed_by g c = λ f start spans is.
    let o = c.requires.here in
    let r = c.in-Ok.ensures in
    rw (c.discard-then-not-closed_by.ensures, c.unclosed.ensures) (record {
      halts = then_unclosed f r.form (omega arith) (then_opens o.token f o.stands.is o.role_is c.requires.near (omega arith) (tests_none is_colon (closes ender.Colon) (punct mark.Colon) _ colon_says refl (c.if-ended_by.ensures.no refl _ _ c.due_at-due.ensures.marks)) c.args.parser.now.deep) r.reads c.args.parser.now.deep r.rests (c.if-not-closed_by.ensures.no refl _ _ r.follows);
      ahead = omega (arith, r.ahead);
      within = r.within;
    })

pub returns-then-ended_by : goal.returns-then-ended_by
returns-then-ended_by g c = λ f start spans is.
    let o = c.requires.here in
    let u = shows_one is_colon (closes ender.Colon) (punct mark.Colon) _ _ (λ t h. h) refl (c.if-ended_by.ensures.yes refl _ _ c.due_at-due.ensures.marks) in (
      record {
        form = short_open f;
        reads = short_opens o.token u.token f o.stands.is o.role_is c.requires.near (omega arith) u.stands.is u.role_is c.args.parser.now.deep;
        least_is = refl;
        right_is = refl;
        as_deep = λ d. refl;
        arrow = refl;
        shown = λ x y behind right. short_spans c.args.parser.now.reader.tokens.now _ _ _ f y start c.args.left.next behind refl spans right;
        ends_is = λ x. refl;
        bare_is = λ x. refl;
        ahead = omega (arith, spans.sized);
        within = omega (arith, u.stands.within);
      },
      omega arith,
    )

pub returns : goal.returns
returns g c = λ f start spans is.
    let o = c.requires.here in
    let r = c.in-Ok.ensures in
    onward_behind c.args.parser.now.reader.tokens.now start c.args.left.next _ (λ s. holds r.form (then_open f ∷ s)) _ (omega (arith, r.ahead))
    (leads (λ s. expects (then_open f ∷ s)) (then_opens o.token f o.stands.is o.role_is c.requires.near (omega arith) (tests_none is_colon (closes ender.Colon) (punct mark.Colon) _ colon_says refl (c.if-ended_by.ensures.no refl _ _ c.due_at-due.ensures.marks)) c.args.parser.now.deep)
    (inside (c.args.parser.now.reader.room - 1) LEAST_POWER (then_open f) (inl refl) (omega arith) (λ d. omega arith) r.reads))
    (c.half_choice.ensures (omega arith) f r.form start spans r.spans)

pub half_choice-requires-clause-colon : goal.half_choice-requires-clause-colon
half_choice-requires-clause-colon g c = c.if-not-closed_by.ensures.yes refl _ _ c.in-Ok.ensures.follows
