use Rattle.std.proofs.Common.{◌+◌, refl, ap, arith}
use Rattle.std.proofs.lemmas.Result.{err_from_is_err_and}
use Rattle.php_ast.specs.statement.Tree.{empty}
use Rattle.php_ast.specs.declaration.Tree.{prefers}
use Rattle.php_ast.specs.declaration.Placed.{size_origin}
use Rattle.php_grammar.specs.declaration.MemberMachine.{due_trait, past_trait, of_instead}
use Rattle.php_parse_member.specs.RuleAnswer.{past_head}
use Rattle.php_parse_member.proofs.Moves.{leads, leads_halts, later}
use Rattle.php_parse_member.proofs.Ruled.{head_reads, instead_ends, instead_unended, verb_lacks, instead_lacks}
use Rattle.php_parse_member.proofs.Shown.{preference_shown, origin_none, origin_some, word_moved}
use Rattle.php_parse_member.proofs.rules.preference.Goals as goal

pub returns-in_default : goal.returns-in_default
returns-in_default c =
    let h = c.requires.head in
    let o = c.requires.here in
    λ rules. record {
      halts = leads_halts (past_head rules h.origin h.word) (h.reads rules) (verb_lacks rules h.origin h.word (instead_lacks c.args.reader.now.tokens.now c.args.head.next h.origin h.word o (origin_none c.args.reader.now.tokens.now c.args.at h.origin (rw c.in_default.is at h.origin_shown))));
      ahead = omega (arith, h.sized);
      within = h.within;
    }

pub returns-in_err-others : goal.returns-in_err-others
returns-in_err-others c =
    let h = c.requires.head in
    let o = c.requires.here in
    let g = origin_some c.args.reader.now.tokens.now c.args.at h.origin _ (rw c.in-Some.is at h.origin_shown) in
    let q = err_from_is_err_and c.from_residual.result c.from_residual.ensures.1 in
    rw (q.1, q.2) (λ rules. later c.args.reader.now.tokens.now c.args.at (c.args.head.next + 1) (due_trait (of_instead rules g.0 h.word) empty) c.in_err-others.field-0.0 (omega (arith, h.sized))
    (head_reads c.args.reader.now.tokens.now c.args.head.next c.args.reader.now.room rules h.origin g.0 h.word g.1 (h.reads rules) o c.requires.deep)
    (c.in_err-others.ensures (of_instead rules g.0 h.word) (omega (arith, c.requires.deep))))

pub returns-then-not-ends : goal.returns-then-not-ends
returns-then-not-ends c =
    let h = c.requires.head in
    let o = c.requires.here in
    let g = origin_some c.args.reader.now.tokens.now c.args.at h.origin _ (rw c.in-Some.is at h.origin_shown) in
    let t = c.in_ok-others.ensures in
    λ rules. record {
      halts = leads_halts (past_trait (of_instead rules g.0 h.word) t.names)
          (leads (due_trait (of_instead rules g.0 h.word) empty) (head_reads c.args.reader.now.tokens.now c.args.head.next c.args.reader.now.room rules h.origin g.0 h.word g.1 (h.reads rules) o c.requires.deep)
          (t.reads (of_instead rules g.0 h.word) (omega (arith, c.requires.deep))))
          (instead_unended rules g.0 h.word t.names t.no_comma (c.if-not-ends.ensures.no refl));
      ahead = omega (arith, h.sized, t.ahead);
      within = t.within;
    }

pub returns : goal.returns
returns c =
    let h = c.requires.head in
    let o = c.requires.here in
    let g = origin_some c.args.reader.now.tokens.now c.args.at h.origin _ (rw c.in-Some.is at h.origin_shown) in
    let t = c.in_ok-others.ensures in
    let e = c.if-not-ends.ensures.yes refl in
    let two = ap size_origin g.1 in
    record {
      form = prefers tt g.0 h.word t.names;
      shown = preference_shown c.args.reader.now.tokens.now c.args.at _ _ _ c.in_ok-others.others.items _ g.0 h.word t.names c.spot.ensures g.2 (word_moved c.args.reader.now.tokens.now _ _ _ h.word h.word_shown (omega (arith, two))) t.shown (omega (arith, h.sized, two));
      sized = omega (arith, h.sized, two, t.sized);
      reads = λ rules. leads (past_trait (of_instead rules g.0 h.word) t.names)
          (leads (due_trait (of_instead rules g.0 h.word) empty) (head_reads c.args.reader.now.tokens.now c.args.head.next c.args.reader.now.room rules h.origin g.0 h.word g.1 (h.reads rules) o c.requires.deep)
          (t.reads (of_instead rules g.0 h.word) (omega (arith, c.requires.deep))))
          (instead_ends rules g.0 h.word t.names e.token _ e.stands.is e.role_is c.requires.deep);
      ahead = omega (arith, h.sized, t.ahead);
      within = omega (arith, e.stands.within);
    }
